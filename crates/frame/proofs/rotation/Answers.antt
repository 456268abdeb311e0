use Rattle.frame.proofs.rotation.Goals as goal

pub returns : goal.returns
returns c = let e = c.sin_cos.ensures in (simp (e.0, c.theta.ensures), simp (e.1, c.theta.ensures))

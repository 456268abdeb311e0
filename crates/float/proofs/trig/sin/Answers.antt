use Rattle.float.proofs.Angle.{sin_law}
use Rattle.float.proofs.trig.sin.Goals as goal

pub returns : goal.returns
returns c = simp (c.sin_at.ensures, c.cos_poly.ensures, c.sin_poly.ensures, c.reduce-a.ensures.0, c.reduce-a.ensures.1) (sin_law c.args.v)

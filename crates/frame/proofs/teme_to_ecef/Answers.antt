use Rattle.frame.specs.Rotation.{ecef_of}
use Rattle.frame.proofs.teme_to_ecef.Goals as goal

pub returns : goal.returns
unfolding ecef_of
returns c = let e = c.rotation.ensures in simp (c.rotated.ensures, e.0, e.1)

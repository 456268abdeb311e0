use Rattle.orbit.specs.Orbit.{propagated_of, plane_of}
use Rattle.orbit.proofs.propagate.Goals as goal

pub returns : goal.returns
unfolding propagated_of plane_of
returns c =
    let p = c.sin_cos_pair-p.ensures in
    simp (c.rotated.ensures, c.plane.ensures, p.0.0, p.0.1, p.1.0, p.1.1)

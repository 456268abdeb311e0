use mathlib.Core.Path.{refl}
use Rattle.orbit.specs.Orbit.{plane_of}
use Rattle.orbit.proofs.plane.Goals as goal

pub returns : goal.returns
unfolding plane_of
returns c = refl

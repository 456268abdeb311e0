use mathlib.Core.Path.{refl}
use Rattle.orbit.specs.Doppler.{dot_of}
use Rattle.orbit.proofs.doppler.dot.Goals as goal

pub returns : goal.returns
unfolding dot_of
returns c = refl

use mathlib.Core.Path.{refl}
use Rattle.orbit.specs.Doppler.{bias_of}
use Rattle.orbit.proofs.doppler.bias_at.Goals as goal

pub returns : goal.returns
unfolding bias_of
returns c = refl

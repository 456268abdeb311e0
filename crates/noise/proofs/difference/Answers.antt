use mathlib.Core.Path.{refl}
use Rattle.noise.specs.Noise.{difference_of}
use Rattle.noise.proofs.difference.Goals as goal

pub returns : goal.returns
unfolding difference_of
returns c = refl

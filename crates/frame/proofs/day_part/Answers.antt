use mathlib.Core.Path.{refl}
use lib.Ieee.{of_bits, round}
use Rattle.frame.specs.Julian.{day_fraction}
use Rattle.frame.proofs.day_part.Goals as goal

pub returns : goal.returns
unfolding day_fraction of_bits round
returns c = refl

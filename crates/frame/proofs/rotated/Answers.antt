use mathlib.Core.Path.{refl}
use lib.Ieee.{of_bits, round}
use Rattle.frame.specs.Rotation.{rotated_of}
use Rattle.frame.proofs.rotated.Goals as goal

pub returns : goal.returns
unfolding rotated_of of_bits round
returns c = refl

use mathlib.Core.Path.{refl}
use lib.Ieee.{of_bits, round}
use Rattle.frame.specs.Rotation.{gmst_of}
use Rattle.frame.proofs.gmst.Goals as goal

pub returns : goal.returns
unfolding gmst_of of_bits round
returns c = refl

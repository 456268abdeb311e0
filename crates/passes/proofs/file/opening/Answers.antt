-- `passes::file::opening` meets its contract. Assumes nothing.
use mathlib.Core.Path.{refl}
use lib.Ieee.{of_bits, round}
use Rattle.passes.specs.File as File
use Rattle.passes.proofs.file.opening.Goals as goal

pub returns : goal.returns
unfolding of_bits round File.opening
returns c = refl

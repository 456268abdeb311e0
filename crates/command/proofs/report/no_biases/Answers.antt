-- `no_biases` meets its contract. Assumes nothing.
use Rattle.std.proofs.Common.{refl}
use lib.Ieee.{of_bits, div}
use Rattle.command.proofs.report.no_biases.Goals as goal

pub returns : goal.returns
unfolding of_bits div
returns c = refl

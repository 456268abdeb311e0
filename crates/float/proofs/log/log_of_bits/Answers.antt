use Rattle.std.proofs.Common.{arith}
use Rattle.roots.proofs.Bits.{no_nan}
use Rattle.float.proofs.log.log_of_bits.Goals as goal

pub float_from_bits-m : goal.float_from_bits-m
float_from_bits-m c = no_nan _ (omega arith)

pub returns : goal.returns
returns c = simp (c.log.ensures, c.difference.ensures)

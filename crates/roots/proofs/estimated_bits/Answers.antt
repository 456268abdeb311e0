-- `roots::estimated_bits` is safe: the two patterns are no NaN's. Assumes nothing.
use Prim.Native.Nat.{◌-◌, ◌/◌}
use native.Mathlib.Omega.{arith}
use Rattle.roots.proofs.Bits.{no_nan, lt_no_nan}
use Rattle.roots.proofs.estimated_bits.Goals as goal

pub float_from_bits-first : goal.float_from_bits-first
float_from_bits-first c = no_nan (0x5fe4000000000000 - c.args.b / 2) (omega arith)

pub float_to_bits-result : goal.float_to_bits-result
float_to_bits-result c = lt_no_nan _ _ c.if-s.true

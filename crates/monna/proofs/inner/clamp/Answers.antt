-- `inner::clamp` meets its contract. Assumes nothing.

use lib.Ieee.{of_bits, sub, lt, eq, le}
use Rattle.float.specs.Ops.{one_bits}
use Rattle.monna.specs.Digits.{clamp_of, margin_bits}
use Rattle.monna.proofs.inner.clamp.Goals as goal

pub clamp-requires : goal.clamp-requires
unfolding of_bits sub lt eq le
clamp-requires c = tt

pub returns : goal.returns
unfolding clamp_of
returns c = simp (← one_bits, ← margin_bits, c.clamp.ensures.value)

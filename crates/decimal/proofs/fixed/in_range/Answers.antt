-- `decimal::fixed::in_range` meets its contract. Assumes nothing.
use lib.Ieee.{of_bits}
use Rattle.decimal.specs.Fixed.{within}
use Rattle.decimal.proofs.fixed.in_range.Goals as goal

pub returns-then-not-v : goal.returns-then-not-v
unfolding within of_bits
returns-then-not-v c = simp c.if-not-v.true

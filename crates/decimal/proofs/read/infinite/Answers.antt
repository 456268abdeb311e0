-- `decimal::read::infinite` meets its contract. Assumes nothing.
use lib.Ieee.{of_bits}
use Rattle.decimal.proofs.read.infinite.Goals as goal

pub returns-then-negative : goal.returns-then-negative
unfolding of_bits
returns-then-negative c = rw c.if-negative.true

pub returns-else-negative : goal.returns-else-negative
unfolding of_bits
returns-else-negative c = rw c.if-negative.false

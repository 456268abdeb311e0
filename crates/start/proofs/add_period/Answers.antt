-- `add_period` meets its contract. Assumes nothing.
use Rattle.float.specs.Ops.{one_bits}
use Rattle.start.specs.Start.{add_period, usual_period_bits}
use Rattle.start.proofs.add_period.Goals as goal

pub returns-then-k : goal.returns-then-k
unfolding add_period
returns-then-k c =
    simp (← usual_period_bits, ← one_bits, ← c.round-k.ensures, c.if-k.true)

pub returns-else-k : goal.returns-else-k
unfolding add_period
returns-else-k c = simp (← usual_period_bits, ← c.round-k.ensures, c.if-k.false)

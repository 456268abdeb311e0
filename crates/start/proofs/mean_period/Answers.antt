-- `mean_period` meets its contract. Assumes nothing.
use Rattle.start.specs.Start.{mean_period, usual_period_bits}
use Rattle.start.proofs.mean_period.Goals as goal

pub returns-then-s : goal.returns-then-s
unfolding mean_period
returns-then-s c = simp c.if-s.true

pub returns-else-s : goal.returns-else-s
unfolding mean_period
returns-else-s c = simp (c.if-s.false, usual_period_bits)

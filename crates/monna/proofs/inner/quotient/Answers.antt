-- `inner::quotient` meets its contract. Assumes nothing.
use Rattle.monna.specs.History.{quotient_of, least_distance_bits}
use Rattle.monna.proofs.inner.quotient.Goals as goal

pub returns-then-dist : goal.returns-then-dist
unfolding quotient_of
returns-then-dist c = simp (← least_distance_bits, ← c.distance_value-dist.ensures, c.if-dist.true, c.sqrt.ensures)

pub returns-else-dist : goal.returns-else-dist
unfolding quotient_of
returns-else-dist c = simp (← least_distance_bits, ← c.distance_value-dist.ensures, c.if-dist.false)

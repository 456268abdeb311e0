use Rattle.float.specs.Log.{log_of, root2_bits}
use Rattle.float.specs.Ops.{one_bits, half_bits}
use Rattle.float.proofs.log.log.Goals as goal

pub returns-then-m : goal.returns-then-m
unfolding log_of
returns-then-m c = simp (← root2_bits, ← one_bits, ← half_bits, c.series.ensures, c.if-m.true)

pub returns-else-m : goal.returns-else-m
unfolding log_of
returns-else-m c = simp (← root2_bits, ← one_bits, ← half_bits, c.series-else-m.ensures, c.if-m.false)

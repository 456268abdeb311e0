-- `inner::distance_value` meets its contract. Assumes nothing.
use Rattle.std.proofs.Common.{◌<◌}
use Rattle.float.specs.Ops.{one, raised, of_nat}
use Rattle.monna.specs.Digits.{valuation, gap}
use Rattle.monna.proofs.Digits.{Counting}
use Rattle.monna.proofs.inner.distance_value.Given as goal

abbrev pub invariant-loop-diff : goal.invariant-loop-diff
invariant-loop-diff l = (0 < l.diff) × Counting l.p.value l.diff l.q l.power (raised (of_nat l.p.value) (valuation l.p.value (gap l.a l.b)) one)

abbrev pub decreases-loop-diff : goal.decreases-loop-diff
decreases-loop-diff l = l.diff

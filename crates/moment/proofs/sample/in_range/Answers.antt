-- `in_range` meets its contract. Assumes nothing.
use Rattle.std.proofs.Common.{w64}
use mir.ValLaws.{to_z-of_z}
use Rattle.moment.specs.Sample.{time_in_range}
use Rattle.moment.proofs.Samples.{from_1957}
use Rattle.moment.proofs.sample.in_range.Goals as goal

pub returns-then-t-geminus410227200000000000 : goal.returns-then-t-geminus410227200000000000
unfolding time_in_range
returns-then-t-geminus410227200000000000 c = rw (to_z-of_z w64 c.args.t c.ranges.t) (simp (← from_1957 c.args.t, rw (to_z-of_z w64 c.args.t c.ranges.t) at c.if-t-geminus410227200000000000.true))

pub returns-else-t-geminus410227200000000000 : goal.returns-else-t-geminus410227200000000000
unfolding time_in_range
returns-else-t-geminus410227200000000000 c = rw (to_z-of_z w64 c.args.t c.ranges.t) (simp (← from_1957 c.args.t, rw (to_z-of_z w64 c.args.t c.ranges.t) at c.if-t-geminus410227200000000000.false))

-- `moment::calendar::months_length` meets its contract: `days` are those of the months before m. Assumes nothing.
use Rattle.std.proofs.Common.{◌-◌, ◌≤◌, ◌+◌}
use Rattle.moment.specs.Calendar as Calendar
use Rattle.moment.proofs.calendar.months_length.Given as goal

abbrev pub invariant-loop-m : goal.invariant-loop-m
invariant-loop-m l = (1 ≤ l.m) × (l.m ≤ l.n + 1) × Calendar.Months l.leap (l.m - 1) l.days

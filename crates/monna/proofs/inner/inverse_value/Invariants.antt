-- `inner::inverse_value` meets its contract. Assumes nothing.
use Rattle.std.proofs.Common.{◌≡◌, ◌-◌, ◌*◌, ◌^◌, ◌≤◌}
use Rattle.monna.proofs.Digits.{Taking}
use Rattle.monna.specs.Digits.{inverse_of}
use Rattle.monna.proofs.inner.inverse_value.Given as goal

abbrev pub invariant-loop : goal.invariant-loop
invariant-loop l = (l.factor ≡ l.p.value ^ l.counter) × (l.val ≤ l.counter * 199397583417606) × Taking (l.precision - l.counter) l.p.value l.rest l.factor l.val (inverse_of l.x l.p.value l.precision)

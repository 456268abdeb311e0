-- `fill_window` meets its contract. Assumes nothing.
use Prim.Native.Nat.{ℕ, ◌+◌, ◌-◌, ◌≤◌}
use Rattle.moment.specs.declared.Instant.{Instant}
use Rattle.approach.specs.Turns.{entries, Entered}
use Rattle.approach.proofs.turns.fill_window.Given as goal

abbrev pub from : ℕ → ℕ → ℕ → Instant
from base nanos j = record { secs = base + j; nanos = nanos }

abbrev pub invariant-loop-j : goal.invariant-loop-j
invariant-loop-j l = (l.j ≤ entries) × Entered (from l.base l.nanos) l.at l.j l.initial.table l.table

abbrev pub decreases-loop-j : goal.decreases-loop-j
decreases-loop-j l = entries - l.j

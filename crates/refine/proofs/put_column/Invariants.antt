-- `put_column` meets its contract. Assumes nothing.
use mathlib.Core.Path.{◌≡◌}
use Rattle.loops.proofs.Laws.{Left}
use Rattle.loops.specs.Loop.{for}
use Rattle.refine.specs.Jacobian.{put_entry}
use lib.ListN.{length}
use Rattle.refine.proofs.put_column.Given as goal

abbrev pub invariant-loop-row : goal.invariant-loop-row
invariant-loop-row l =
    (l.table.n ≡ l.initial.table.n) × (l.table.residuals.now ≡ l.initial.table.residuals.now)
    × Left l.row (length l.initial.table.residuals.now) (put_entry l.initial.table.n l.eps l.k l.initial.table.residuals.now l.column) l.table.entries.now
    (for 0 (length l.initial.table.residuals.now) (put_entry l.initial.table.n l.eps l.k l.initial.table.residuals.now l.column) l.initial.table.entries.now)

-- `Table::sum_jt_j` meets its contract. Assumes nothing.
use Prim.Native.Nat.{◌*◌}
use lib.ListN.{length}
use mathlib.Core.Path.{◌≡◌}
use Rattle.loops.proofs.Laws.{Left}
use Rattle.normal.specs.Normal.{add_row, jtj_of, table_entry}
use Rattle.normal.proofs.Table.sum_jt_j.Given as goal

abbrev pub invariant-loop-row : goal.invariant-loop-row
invariant-loop-row l = (length l.jt_j ≡ l.self.n * l.self.n) × Left l.row (length l.self.residuals.now) (add_row l.self.n (table_entry l.self.n l.self.entries.now)) l.jt_j (jtj_of l.self.n (table_entry l.self.n l.self.entries.now) (length l.self.residuals.now))

-- `Table::sum_jt_r` meets its contract. Assumes nothing.
use Rattle.float.specs.Ops.{at}
use lib.ListN.{length}
use mathlib.Core.Path.{◌≡◌}
use Rattle.loops.proofs.Laws.{Left}
use Rattle.normal.specs.Normal.{add_rights, jtr_of, table_entry}
use Rattle.normal.proofs.Table.sum_jt_r.Given as goal

abbrev pub invariant-loop-row : goal.invariant-loop-row
invariant-loop-row l = (length l.jt_r ≡ l.self.n) × Left l.row (length l.self.residuals.now) (add_rights l.self.n (table_entry l.self.n l.self.entries.now) (at l.self.residuals.now)) l.jt_r (jtr_of l.self.n (table_entry l.self.n l.self.entries.now) (at l.self.residuals.now) (length l.self.residuals.now))

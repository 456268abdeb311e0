-- `Table::add_rights` meets its contract. Assumes nothing.
use Rattle.float.specs.Ops.{at}
use lib.ListN.{length}
use mathlib.Core.Path.{◌≡◌}
use Rattle.loops.proofs.Laws.{Left}
use Rattle.normal.specs.Normal.{add_right, add_rights, table_entry}
use Rattle.normal.proofs.Table.add_rights.Given as goal

abbrev pub invariant-loop-c1 : goal.invariant-loop-c1
invariant-loop-c1 l = (length l.jt_r ≡ l.self.n) × Left l.c1 l.self.n (add_right l.self.n (table_entry l.self.n l.self.entries.now) (at l.self.residuals.now) l.row) l.jt_r (add_rights l.self.n (table_entry l.self.n l.self.entries.now) (at l.self.residuals.now) l.row l.initial.jt_r)

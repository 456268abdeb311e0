-- `Table::add_row` meets its contract. Assumes nothing.
use Prim.Native.Nat.{◌*◌}
use lib.ListN.{length}
use mathlib.Core.Path.{◌≡◌}
use Rattle.loops.proofs.Laws.{Left}
use Rattle.normal.specs.Normal.{add_products, add_row, table_entry}
use Rattle.normal.proofs.Table.add_row.Given as goal

abbrev pub invariant-loop-c1 : goal.invariant-loop-c1
invariant-loop-c1 l = (length l.jt_j ≡ l.self.n * l.self.n) × Left l.c1 l.self.n (add_products l.self.n (table_entry l.self.n l.self.entries.now) l.row) l.jt_j (add_row l.self.n (table_entry l.self.n l.self.entries.now) l.row l.initial.jt_j)

-- `Table::add_products` meets its contract. Assumes nothing.
use Prim.Native.Nat.{◌*◌}
use lib.ListN.{length}
use mathlib.Core.Path.{◌≡◌}
use Rattle.loops.proofs.Laws.{Left}
use Rattle.normal.specs.Normal.{add_product, add_products, table_entry}
use Rattle.normal.proofs.Table.add_products.Given as goal

abbrev pub invariant-loop-c2 : goal.invariant-loop-c2
invariant-loop-c2 l = (length l.jt_j ≡ l.self.n * l.self.n) × Left l.c2 l.self.n (add_product l.self.n (table_entry l.self.n l.self.entries.now) l.v l.row l.c1) l.jt_j (add_products l.self.n (table_entry l.self.n l.self.entries.now) l.row l.c1 l.initial.jt_j)

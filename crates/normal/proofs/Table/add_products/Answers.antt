-- `Table::add_products` meets its contract. Assumes nothing.
use Rattle.loops.proofs.Laws.{begins, again, loops}
use Rattle.normal.specs.Normal.{add_product, add_products}
use borrow.Author.Rules.{rules}
use Rattle.normal.proofs.Table.add_products.Goals as goal

pub loop-c2-init : goal.loop-c2-init
unfolding add_products
loop-c2-init c = (search rules, begins (simp c.entry-v.ensures))

pub loop-c2-preserved : goal.loop-c2-preserved
unfolding add_product
loop-c2-preserved c = (search rules, again c.loop-c2-test.true c.loop-c2.invariant.1 (simp (c.place-p.ensures.0, c.entry.ensures)))

pub returns : goal.returns
returns c = search loops

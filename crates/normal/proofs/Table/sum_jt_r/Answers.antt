-- `Table::sum_jt_r` meets its contract. Assumes nothing.
use Rattle.loops.proofs.Laws.{begins, loops}
use Rattle.normal.specs.Normal.{jtr_of}
use borrow.Author.Rules.{rules}
use Rattle.normal.proofs.Table.sum_jt_r.Goals as goal

pub loop-row-init : goal.loop-row-init
unfolding jtr_of
loop-row-init c = (search rules, begins (rw (c.clear.ensures, c.requires)))

pub loop-row-preserved : goal.loop-row-preserved
loop-row-preserved c = search loops

pub returns : goal.returns
returns c = search loops

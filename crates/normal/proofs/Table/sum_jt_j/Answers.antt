-- `Table::sum_jt_j` meets its contract. Assumes nothing.
use Rattle.loops.proofs.Laws.{begins, loops}
use Rattle.normal.specs.Normal.{jtj_of}
use borrow.Author.Rules.{rules}
use Rattle.normal.proofs.Table.sum_jt_j.Goals as goal

pub loop-row-init : goal.loop-row-init
unfolding jtj_of
loop-row-init c = (search rules, begins (rw (c.clear.ensures, c.requires)))

pub loop-row-preserved : goal.loop-row-preserved
loop-row-preserved c = search loops

pub returns : goal.returns
returns c = search loops

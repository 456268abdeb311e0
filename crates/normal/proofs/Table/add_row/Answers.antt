-- `Table::add_row` meets its contract. Assumes nothing.
use Rattle.loops.proofs.Laws.{loops}
use Rattle.normal.specs.Normal.{add_row}
use Rattle.normal.proofs.Table.add_row.Goals as goal

pub loop-c1-init : goal.loop-c1-init
unfolding add_row
loop-c1-init c = search loops

pub loop-c1-preserved : goal.loop-c1-preserved
loop-c1-preserved c = search loops

pub returns : goal.returns
returns c = search loops

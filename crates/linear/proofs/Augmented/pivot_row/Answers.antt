-- `Augmented::pivot_row` meets its contract. Assumes nothing.
use Rattle.loops.proofs.Laws.{loops}
use Rattle.linear.specs.Elimination.{pivot_row}
use Rattle.linear.proofs.Augmented.pivot_row.Goals as goal

pub loop-r-init : goal.loop-r-init
unfolding pivot_row
loop-r-init c = search loops

pub loop-r-preserved : goal.loop-r-preserved
loop-r-preserved c = search loops

pub returns : goal.returns
returns c = search loops

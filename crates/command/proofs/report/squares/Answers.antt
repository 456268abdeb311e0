-- `squares` meets its contract. Assumes nothing.
use Rattle.loops.proofs.Laws.{loops}
use Rattle.command.specs.Report.{squares_of}
use Rattle.command.proofs.report.squares.Goals as goal

pub loop-k-init : goal.loop-k-init
unfolding squares_of
loop-k-init c = search loops

pub square-s-requires : goal.square-s-requires
unfolding squares_of
square-s-requires c = search loops

pub overflow_step-k : goal.overflow_step-k
unfolding squares_of
overflow_step-k c = search loops

pub loop-k-smaller : goal.loop-k-smaller
unfolding squares_of
loop-k-smaller c = search loops

pub loop-k-preserved : goal.loop-k-preserved
unfolding squares_of
loop-k-preserved c = search loops

pub returns : goal.returns
unfolding squares_of
returns c = search loops

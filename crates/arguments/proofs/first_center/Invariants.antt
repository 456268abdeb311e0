-- `first_center` meets its contract: the passes from p on decide what all do. Assumes nothing.
use Rattle.arguments.proofs.Walks.{CenterFrom}
use Rattle.arguments.proofs.first_center.Given as goal

abbrev pub invariant-loop-p : goal.invariant-loop-p
invariant-loop-p l = CenterFrom l.counts l.centers l.p

-- `non_empty` meets its contract: the first n places hold the non-empty of the first p counts. Assumes nothing.
use Rattle.arguments.proofs.Walks.{Kept}
use Rattle.arguments.proofs.non_empty.Given as goal

abbrev pub invariant-loop-count : goal.invariant-loop-count
invariant-loop-count l = Kept l.counts l.out l.n l.count-index

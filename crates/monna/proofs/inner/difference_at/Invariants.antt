-- `inner::difference_at` meets its contract. Assumes nothing.
use Rattle.std.proofs.Common.{length}
use Rattle.loops.proofs.Laws.{Left}
use Rattle.monna.specs.History.{with_quotient, difference_at}
use Rattle.monna.proofs.inner.difference_at.Given as goal

abbrev pub invariant-loop-j : goal.invariant-loop-j
invariant-loop-j l = Left l.j (length l.x) (with_quotient l.x l.i) l.sum (difference_at l.x l.i)

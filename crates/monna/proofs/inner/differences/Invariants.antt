-- `inner::differences` meets its contract. Assumes nothing.
use Rattle.std.proofs.Common.{◌≡◌, ◌++◌, drop}
use Rattle.monna.specs.History.{tabulated, difference_at}
use Rattle.monna.proofs.inner.differences.Given as goal

abbrev pub invariant-loop-i : goal.invariant-loop-i
invariant-loop-i l = l.out ≡ tabulated l.i (difference_at l.x) ++ drop l.i l.initial.out

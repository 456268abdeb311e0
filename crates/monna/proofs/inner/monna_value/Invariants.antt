-- `inner::monna_value` meets its contract. Assumes nothing.
use Rattle.monna.specs.Digits.{monna_of}
use Rattle.monna.proofs.Digits.{Placing}
use Rattle.monna.proofs.inner.monna_value.Given as goal

abbrev pub invariant-loop-val : goal.invariant-loop-val
invariant-loop-val l = Placing l.p.value l.val l.base l.res (monna_of l.fn.val l.p.value)

abbrev pub decreases-loop-val : goal.decreases-loop-val
decreases-loop-val l = l.val

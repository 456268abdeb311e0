-- `inner::difference_at` meets its contract. Assumes nothing.
use Rattle.std.proofs.Common.{eq-eqb, ne_eqb}
use Rattle.loops.proofs.Laws.{again, loops}
use Rattle.monna.specs.History.{with_quotient, difference_at}
use Rattle.monna.proofs.inner.difference_at.Goals.{then-i-j, else-i-j}
use Rattle.monna.proofs.inner.difference_at.Goals as goal

pub loop-j-init : goal.loop-j-init
unfolding difference_at
loop-j-init c = search loops

pub loop-j-preserved : goal.loop-j-preserved
unfolding with_quotient
loop-j-preserved c =
    elim c.if-i-j.branch [
      | then-i-j w ↦ again c.loop-j-test.true c.loop-j.invariant (simp (w.sum-is, ne_eqb _ _ w.if-i-j.true, w.quotient-sum.ensures))
      | else-i-j w ↦ again c.loop-j-test.true c.loop-j.invariant (simp (w.sum-is, eq-eqb _ _ w.if-i-j.false))
    ]

pub returns : goal.returns
returns c = search loops

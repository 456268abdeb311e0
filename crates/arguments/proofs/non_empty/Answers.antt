-- `non_empty` meets its contract: the first n places hold the non-empty of the first p counts. Assumes nothing.
use mathlib.Core.Path.{refl}
use Rattle.arguments.proofs.Walks.{kept_first, kept_more, kept_skip, kept_last}
use Rattle.arguments.proofs.non_empty.Goals.{then-count-ne0, else-count-ne0}
use Rattle.arguments.proofs.non_empty.Goals as goal

pub loop-count-init : goal.loop-count-init
loop-count-init c = kept_first _ _ refl

pub loop-count-preserved : goal.loop-count-preserved
loop-count-preserved c =
    elim c.if-count-ne0.branch [
      | then-count-ne0 w ↦ kept_more c.loop-count-test.true c.loop-count.invariant c.requires w.if-count-ne0.true w.out-is w.n-is
      | else-count-ne0 w ↦ kept_skip c.loop-count-test.true c.loop-count.invariant w.if-count-ne0.false w.out-is w.n-is
    ]

pub returns : goal.returns
returns c = kept_last c.loop-count-test.false c.requires c.loop-count.invariant

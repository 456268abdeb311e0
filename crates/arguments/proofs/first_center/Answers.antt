-- `first_center` meets its contract: the passes from p on decide what all do. Assumes nothing.
use Rattle.arguments.proofs.Walks.{center_first, center_next, center_found, center_last}
use Rattle.arguments.proofs.first_center.Goals as goal

pub loop-p-init : goal.loop-p-init
loop-p-init c = center_first _ _

pub returns-then-count-ne0 : goal.returns-then-count-ne0
returns-then-count-ne0 c = center_found c.loop-p-test.true c.requires c.loop-p.invariant c.if-count-ne0.true

pub loop-p-preserved : goal.loop-p-preserved
loop-p-preserved c = center_next c.loop-p-test.true c.requires c.loop-p.invariant c.if-count-ne0.false

pub returns : goal.returns
returns c = center_last c.loop-p-test.false c.loop-p.invariant

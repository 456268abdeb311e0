-- `Equations::scale` meets its contract. Assumes nothing.
use mathlib.Core.Path.{◌∙◌}
use Rattle.loops.proofs.Laws.{again, loops}
use Rattle.normal.specs.Step.{scaled}
use Rattle.normal.proofs.Equations.scale.Goals as goal

pub loop-r-init : goal.loop-r-init
unfolding scaled
loop-r-init c = search loops

pub loop-r-preserved : goal.loop-r-preserved
loop-r-preserved c =
    let i = c.loop-r.invariant in
    let e = c.scale_row.ensures in
    (e.size ∙ i.0, e.right ∙ i.1, again c.loop-r-test.true i.2 (rw i.0 at e.after))

pub returns-clause-after : goal.returns-clause-after
returns-clause-after c = search loops

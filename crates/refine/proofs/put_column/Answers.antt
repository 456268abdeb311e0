-- `put_column` meets its contract. Assumes nothing.
use mathlib.Core.Path.{◌∙◌}
use Rattle.loops.proofs.Laws.{again, loops}
use Rattle.refine.specs.Jacobian.{put_entry}
use Rattle.refine.proofs.put_column.Goals as goal

pub loop-row-init : goal.loop-row-init
loop-row-init c = search loops

pub loop-row-preserved : goal.loop-row-preserved
unfolding put_entry
loop-row-preserved c =
    let i = c.loop-row.invariant in
    let e = c.put.ensures in
    (e.size ∙ i.0, e.residuals ∙ i.1, again c.loop-row-test.true i.2 (rw i.0 at e.after))

pub returns-clause-after : goal.returns-clause-after
returns-clause-after c = search loops

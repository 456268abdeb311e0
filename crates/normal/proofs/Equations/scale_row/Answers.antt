-- `Equations::scale_row` meets its contract. Assumes nothing.
use Rattle.loops.proofs.Laws.{again, loops}
use Rattle.normal.specs.Step.{scale_cell, scale_row}
use Rattle.normal.proofs.Equations.scale_row.Goals as goal

pub loop-c-init : goal.loop-c-init
unfolding scale_row
loop-c-init c = search loops

pub loop-c-preserved : goal.loop-c-preserved
unfolding scale_cell
loop-c-preserved c =
    let i = c.loop-c.invariant in
    (i.0, i.1, again c.loop-c-test.true i.2 (simp (c.place-p.ensures.0, i.0)))

pub returns-clause-after : goal.returns-clause-after
returns-clause-after c = search loops

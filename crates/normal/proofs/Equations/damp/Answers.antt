-- `Equations::damp` meets its contract. Assumes nothing.
use Rattle.loops.proofs.Laws.{again, loops}
use Rattle.normal.specs.Step.{damp_cell, damped}
use Rattle.normal.proofs.Equations.damp.Goals as goal

pub loop-k-init : goal.loop-k-init
unfolding damped
loop-k-init c = search loops

pub loop-k-preserved : goal.loop-k-preserved
unfolding damp_cell
loop-k-preserved c =
    let i = c.loop-k.invariant in
    (i.0, i.1, again c.loop-k-test.true i.2 (simp (c.place-p.ensures.0, i.0)))

pub returns-clause-after : goal.returns-clause-after
returns-clause-after c = search loops

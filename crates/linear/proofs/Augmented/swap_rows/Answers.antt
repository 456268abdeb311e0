-- `Augmented::swap_rows` meets its contract. Assumes nothing.
use Rattle.loops.proofs.Laws.{again, loops}
use Rattle.linear.specs.Elimination.{swap_rows}
use Rattle.linear.proofs.Places.{exchanged}
use Rattle.linear.proofs.Augmented.swap_rows.Goals as goal

pub loop-c-init : goal.loop-c-init
unfolding swap_rows
loop-c-init c = search loops

pub loop-c-preserved : goal.loop-c-preserved
loop-c-preserved c =
    let same = c.loop-c.invariant.0 in
    let step = exchanged _ _ _ _ _ _ _ _ c.loop-c.self.sized c.cell-p.ensures c.cell-q.ensures c.swap.ensures.after in
    (same, again c.loop-c-test.true c.loop-c.invariant.1 (rw same at step))

pub returns-clause-after : goal.returns-clause-after
returns-clause-after c = search loops

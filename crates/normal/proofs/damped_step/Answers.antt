-- `damped_step` meets its contract. Assumes nothing.
use Rattle.normal.proofs.Moves.{through_sums}
use Rattle.normal.proofs.damped_step.Goals as goal

pub returns : goal.returns
returns g c =
    let table = c.args.table.now in
    let e = c.damp.ensures in
    through_sums _ _ _ _ table.entries.now table.residuals.now _ _ _ _ _ c.sum_jt_j.ensures c.sum_jt_r.ensures e.after (rw (e.size, e.right) at c.solve_step-step.ensures)

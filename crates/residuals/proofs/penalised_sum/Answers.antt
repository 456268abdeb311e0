-- `penalised_sum` meets its contract. Assumes nothing.
use Rattle.residuals.proofs.Laws.{sum_far, sum_is}
use Rattle.std.proofs.lemmas.Result.{err_from_is_err_and}
use Rattle.residuals.proofs.penalised_sum.Goals as goal

pub returns-in_err-residuals_into : goal.returns-in_err-residuals_into
returns-in_err-residuals_into g c =
    let p = err_from_is_err_and c.from_residual.result c.from_residual.ensures.1 in
    rw (p.1, p.2) (sum_far _ _ _ c.in_err-residuals_into.ensures)

pub returns : goal.returns
returns g c = sum_is _ _ _ _ c.in_ok-residuals_into.ensures (rw c.rows.ensures.0 at c.sum_squares.ensures)

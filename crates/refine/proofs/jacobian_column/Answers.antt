-- `jacobian_column` meets its contract. Assumes nothing.
use mathlib.Core.Path.{sym}
use native.Mathlib.Omega.{arith}
use lib.Seq.{length-take-le}
use Rattle.std.proofs.lemmas.Result.{err_from_is_err_and}
use Rattle.residuals.specs.Residuals.{residuals}
use Rattle.refine.specs.Jacobian.{eps_of}
use Rattle.refine.proofs.Columns.{column_far, column_put}
use Rattle.refine.proofs.jacobian_column.Goals as goal

pub perturbed-requires : goal.perturbed-requires
perturbed-requires g c = omega (arith, c.args.table.now.grid.narrow, c.requires.1)

pub residuals_into-requires : goal.residuals_into-requires
residuals_into-requires g c = omega (arith, c.args.obs.now.held.few, c.args.obs.now.held.small)

pub returns-in_err-residuals_into-clause-filled : goal.returns-in_err-residuals_into-clause-filled
returns-in_err-residuals_into-clause-filled g c =
    let p = err_from_is_err_and c.from_residual.result c.from_residual.ensures.1 in
    rw (p.1, p.2) (column_far (eps_of _) (residuals _ _ _) _ _ _ _ _ _ _ _ c.param_eps-eps.ensures c.perturbed.ensures _ _ _ c.in_err-residuals_into.ensures)

pub slice_bounds-column-end : goal.slice_bounds-column-end
slice_bounds-column-end g c = omega (arith, c.args.table.now.grid.few)

pub slice_bounds-put_column-end : goal.slice_bounds-put_column-end
slice_bounds-put_column-end g c = sym (length-take-le _ _ (omega (arith, c.args.table.now.grid.few)))

pub put_column-requires : goal.put_column-requires
put_column-requires g c = (length-take-le _ _ (omega (arith, c.args.table.now.grid.few)), c.requires.1)

pub returns-clause-filled : goal.returns-clause-filled
returns-clause-filled g c =
    column_put (eps_of _) (residuals _ _ _) _ _ _ _ _ _ _ _ c.param_eps-eps.ensures c.perturbed.ensures _ _ _ _
    c.in_ok-residuals_into.ensures c.requires.0 c.put_column.ensures.after

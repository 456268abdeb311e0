-- `residuals_into` meets its contract. Assumes nothing.
use mathlib.Core.Path.{refl}
use native.Mathlib.Omega.{arith}
use Rattle.std.proofs.lemmas.Result.{err_from_is_err_and}
use Rattle.residuals.proofs.Laws.{flag_true, flag_false, dt_written, drift_written, residuals_far, first_written, second_written}
use Rattle.residuals.proofs.residuals_into.Goals as goal

pub returns-in_err-sample_residuals : goal.returns-in_err-sample_residuals
returns-in_err-sample_residuals g c =
    let p = err_from_is_err_and c.from_residual.result c.from_residual.ensures.1 in
    rw (p.1, p.2) (residuals_far _ _ _ _ _ _ _ c.in_err-sample_residuals.ensures)

pub returns-else-this-ne0 : goal.returns-else-this-ne0
returns-else-this-ne0 g c =
    first_written _ _ _ _ _ _ _ _ _ c.in_ok-sample_residuals.ensures refl
    (dt_written _ _ _ _ _ _ (omega (arith, c.requires, c.sample_residuals.auto.out)) c.dt_penalties.auto.out c.dt_penalties.ensures) (flag_false _ c.if-this-ne0.false)

pub returns-then-this-ne0 : goal.returns-then-this-ne0
returns-then-this-ne0 g c =
    second_written _ _ _ _ _ _ _ _ _ c.in_ok-sample_residuals.ensures refl
    (dt_written _ _ _ _ _ _ (omega (arith, c.requires, c.sample_residuals.auto.out)) c.dt_penalties.auto.out c.dt_penalties.ensures) _ (flag_true _ c.if-this-ne0.true)
    (drift_written _ _ _ _ _ _ (omega (arith, c.requires, c.sample_residuals.auto.out)) c.dt_penalties.auto.out c.drift_penalties.auto.out c.drift_penalties.ensures)

-- `trial` meets its contract. Assumes nothing.
use mathlib.Core.Path.{refl, sym}
use Rattle.residuals.specs.Answers.{passes_in}
use Rattle.residuals.proofs.Laws.{flag}
use Rattle.trials.specs.Trials.{state_search}
use Rattle.trials.proofs.Laws.{tried_value, tried_far}
use Rattle.trials.proofs.trial.Goals as goal

pub returns-in-Ok : goal.returns-in-Ok
returns-in-Ok g c =
    let a = c.args in
    tried_value (flag g.row.SECOND) a.obs.now.station (passes_in a.obs.now) (state_search a.s) _ _ c.penalised_sum-sum.ensures _ _ _ (sym c.in-Ok.is) refl c.judge-state.ensures

pub returns-in-Err : goal.returns-in-Err
returns-in-Err g c =
    let a = c.args in
    tried_far (flag g.row.SECOND) a.obs.now.station (passes_in a.obs.now) (state_search a.s) _ _ c.penalised_sum-sum.ensures _ _ (sym c.in-Err.is) refl

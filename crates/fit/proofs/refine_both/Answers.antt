-- `refine_both` meets its contract. Assumes nothing.
use mathlib.Core.Path.{◌≡◌, sym, ◌∙◌}
use Rattle.std.proofs.Common.{Err, rules}
use Rattle.refusal.proofs.Lists.{refused, accepted}
use Rattle.fit.specs.Work.{observed_in}
use Rattle.fit.proofs.Steps.{all_refines, second, solves}
use Rattle.fit.proofs.refine_both.Goals as goal

pub refine_passes-trials-requires : goal.refine_passes-trials-requires
refine_passes-trials-requires c = all_refines _ _ c.requires.1 c.refine_first-s.auto.scratch c.requires.0

pub returns-in_err-accept_state : goal.returns-in_err-accept_state
returns-in_err-accept_state c =
    let a = c.args in
    let e : c.from_residual.result ≡ Err c.in_err-accept_state.field-0.0 = search rules in
    rw e (
    solves (observed_in a.x.now) a.a a.i _ c.refine_first-s.ensures (sym c.in_default.is ∙ c.far_refusal.ensures) _ _ _ _ c.elements_of-e.ensures c.refine_passes-trials.ensures
    ∙ refused _ _ _ (sym c.in_err-accept_state.was ∙ c.accept_state.ensures))

pub returns : goal.returns
returns c =
    let a = c.args in
    let e = sym c.in_default.is ∙ c.far_refusal.ensures in (
      solves (observed_in a.x.now) a.a a.i _ c.refine_first-s.ensures e _ _ _ _ c.elements_of-e.ensures c.refine_passes-trials.ensures
          ∙ (accepted _ _ _ (sym c.in_ok-accept_state.was ∙ c.accept_state.ensures)).0,
      second (observed_in a.x.now) a.a a.i _ c.refine_first-s.ensures e _ _ _ _ c.elements_of-e.ensures c.refine_passes-trials.ensures,
    )

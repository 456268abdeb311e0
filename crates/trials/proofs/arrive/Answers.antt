-- `arrive` meets its contract. Assumes nothing.
use mathlib.Core.Path.{refl, sym, ap}
use Rattle.normal.specs.Answers.{outcome}
use Rattle.normal.specs.declared.Step.{Step}
use Rattle.book.specs.Book.{arrival}
use Rattle.trials.specs.Trials.{state_search}
use Rattle.trials.proofs.Laws.{arrives}
use Rattle.trials.proofs.arrive.Goals as goal

pub returns-in-Next : goal.returns-in-Next
returns-in-Next c =
    let a = c.args in
    arrives (state_search a.s) a.params a.step _ _ (sym c.in-Next.is) c.reach-state.ensures

pub returns-in-Short : goal.returns-in-Short
returns-in-Short c =
    let a = c.args in
    arrives (state_search a.s) a.params a.step a.step _ refl (ap (λ (p : Step). arrival (state_search a.s) (outcome p a.params)) (sym c.in-Short.is))

pub returns-in-Refused : goal.returns-in-Refused
returns-in-Refused c =
    let a = c.args in
    arrives (state_search a.s) a.params a.step _ _ (sym c.in-Refused.is) refl

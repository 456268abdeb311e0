-- `follow` meets its contract. Assumes nothing.
use mathlib.Core.Path.{refl, sym, ◌∙◌}
use Rattle.residuals.specs.Answers.{passes_in}
use Rattle.residuals.proofs.Laws.{flag}
use Rattle.trials.specs.Trials.{state_search}
use Rattle.trials.proofs.Laws.{onward_far, onward_short, onward_step, follows, rows_length, table_room}
use borrow.Author.Rules.{rules}
use Rattle.trials.proofs.follow.Goals as goal

pub returns-in-Err : goal.returns-in-Err
returns-in-Err g c =
    let a = c.args in
    follows (flag g.row.SECOND) a.obs.now.station (passes_in a.obs.now) a.t.state.params a.enough (state_search a.t.state) refl _ _ _ _ _ _ c.in-Err.ensures
    (onward_far (flag g.row.SECOND) a.obs.now.station (passes_in a.obs.now) a.t.state.params a.enough (state_search a.t.state) refl _ _ c.in-Err.ensures) c.arrive.ensures refl

pub returns-then-not-enough : goal.returns-then-not-enough
returns-then-not-enough g c =
    let a = c.args in
    follows (flag g.row.SECOND) a.obs.now.station (passes_in a.obs.now) a.t.state.params a.enough (state_search a.t.state) refl _ _ _ _ _ _ c.in_default.ensures
    (onward_short (flag g.row.SECOND) a.obs.now.station (passes_in a.obs.now) a.t.state.params a.enough (state_search a.t.state) refl _ c.in_default.ensures.written (c.if-not-enough.true))
    c.arrive-then-not-enough.ensures refl

pub slice_bounds-advance-end-2 : goal.slice_bounds-advance-end-2
slice_bounds-advance-end-2 g c = sym (rows_length _ _ (search rules))

pub advance-moved-requires : goal.advance-moved-requires
advance-moved-requires g c = (
  search rules,
  record {
    rows = rows_length _ _ (search rules) ∙ c.rows-rows.ensures.0;
    known = rw c.rows-rows.ensures.0 c.in_default.ensures.written;
    table = table_room _ _ _ _ _ (search rules) c.rows-rows.ensures.0 c.requires.0;
  },
)

pub returns : goal.returns
returns g c =
    let a = c.args in
    follows (flag g.row.SECOND) a.obs.now.station (passes_in a.obs.now) a.t.state.params a.enough (state_search a.t.state) refl _ _ _ _ _ _ c.in_default.ensures
    (c.advance-moved.ensures.outcome ∙ onward_step (flag g.row.SECOND) a.obs.now.station (passes_in a.obs.now) a.t.state.params a.enough (state_search a.t.state) refl _ c.in_default.ensures.written (c.if-not-enough.false))
    c.arrive-2.ensures c.advance-moved.ensures.behind

use Rattle.std.proofs.Common.{rules, sym, ◌∙◌}
use Rattle.moment.proofs.Ranges.{at_is}
use Rattle.orbit.proofs.Entries.{epoch_out, t_out, predicted}
use Rattle.orbit.proofs.doppler.predict_frequency.Goals as goal

pub returns-in_err-from : goal.returns-in_err-from
returns-in_err-from c =
    let a = c.args in
    search rules ∙ epoch_out a.a a.i a.raan0 a.u0 a.epoch a.t_obs a.dt a.df a.center_freq a.rec_ecef _ (sym c.in_err-from.was ∙ c.try_from.ensures)

pub returns-in_err-t : goal.returns-in_err-t
returns-in_err-t c =
    let a = c.args in
    search rules ∙ t_out a.a a.i a.raan0 a.u0 a.epoch a.t_obs a.dt a.df a.center_freq a.rec_ecef _ _
    (sym c.in_ok-from.was ∙ c.try_from.ensures) (sym c.in_err-t.was ∙ c.try_from-2.ensures)

pub predict_at-requires : goal.predict_at-requires
predict_at-requires c = (
  (at_is _ _ _ (sym c.in_ok-from.was ∙ c.try_from.ensures)).accepted,
  (at_is _ _ _ (sym c.in_ok-t.was ∙ c.try_from-2.ensures)).accepted,
)

pub returns : goal.returns
returns c =
    let a = c.args in
    predicted a.a a.i a.raan0 a.u0 a.epoch a.t_obs a.dt a.df a.center_freq a.rec_ecef _ _ _
    (sym c.in_ok-from.was ∙ c.try_from.ensures) (sym c.in_ok-t.was ∙ c.try_from-2.ensures) c.predict_at.ensures

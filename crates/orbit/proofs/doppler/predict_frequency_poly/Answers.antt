use Rattle.std.proofs.Common.{rules, sym, ◌∙◌}
use Rattle.moment.proofs.Ranges.{at_is}
use Rattle.moment.proofs.Samples.{within_sound}
use lib.Dec.{lit≤}
use Rattle.orbit.proofs.Entries.{poly_epoch_out, poly_t_out, poly_ref_out, poly_predicted}
use Rattle.orbit.proofs.doppler.predict_frequency_poly.Goals as goal

pub returns-in_err-from : goal.returns-in_err-from
returns-in_err-from c =
    let a = c.args in
    search rules ∙ poly_epoch_out a.a a.i a.raan0 a.u0 a.epoch a.t_obs a.dt a.df_poly a.t_ref a.center_freq a.rec_ecef _ (sym c.in_err-from.was ∙ c.try_from.ensures)

pub returns-in_err-t : goal.returns-in_err-t
returns-in_err-t c =
    let a = c.args in
    search rules ∙ poly_t_out a.a a.i a.raan0 a.u0 a.epoch a.t_obs a.dt a.df_poly a.t_ref a.center_freq a.rec_ecef _ _ (sym c.in_ok-from.was ∙ c.try_from.ensures) (sym c.in_err-t.was ∙ c.try_from-2.ensures)

pub returns-in_err-since : goal.returns-in_err-since
returns-in_err-since c =
    let a = c.args in
    search rules ∙ poly_ref_out a.a a.i a.raan0 a.u0 a.epoch a.t_obs a.dt a.df_poly a.t_ref a.center_freq a.rec_ecef _ _ _ (sym c.in_ok-from.was ∙ c.try_from.ensures) (sym c.in_ok-t.was ∙ c.try_from-2.ensures) (sym c.in_err-since.was ∙ c.try_from-3.ensures)

pub tau_millis-requires : goal.tau_millis-requires
tau_millis-requires c = (
  within_sound 0 _ _ (lit≤ tt) (at_is _ _ _ (sym c.in_ok-t.was ∙ c.try_from-2.ensures)).accepted,
  within_sound 0 _ _ (lit≤ tt) (at_is _ _ _ (sym c.in_ok-since.was ∙ c.try_from-3.ensures)).accepted,
)

pub predict_at-requires : goal.predict_at-requires
predict_at-requires c =
    ((at_is _ _ _ (sym c.in_ok-from.was ∙ c.try_from.ensures)).accepted, (at_is _ _ _ (sym c.in_ok-t.was ∙ c.try_from-2.ensures)).accepted)

pub returns : goal.returns
returns c =
    let a = c.args in
    poly_predicted a.a a.i a.raan0 a.u0 a.epoch a.t_obs a.dt a.df_poly a.t_ref a.center_freq a.rec_ecef _ _ _ _ _ _
    (sym c.in_ok-from.was ∙ c.try_from.ensures) (sym c.in_ok-t.was ∙ c.try_from-2.ensures) (sym c.in_ok-since.was ∙ c.try_from-3.ensures)
    c.tau_millis.ensures c.bias_at-bias.ensures c.predict_at.ensures

use Rattle.std.proofs.Common.{rules, sym, ◌∙◌}
use native.Mathlib.Omega.{arith}
use Rattle.moment.proofs.Ranges.{at_is}
use Rattle.moment.proofs.Samples.{within_sound}
use lib.Dec.{lit≤}
use Rattle.orbit.proofs.Hoisted.{turn_is, propagated_at}
use Rattle.orbit.proofs.Entries.{ecef_epoch_out, ecef_t_out, ecef_rotate_out, ecef_at_lem}
use Rattle.orbit.proofs.propagate_ecef_at_time.Goals as goal

pub returns-in_err-from : goal.returns-in_err-from
returns-in_err-from c =
    let a = c.args in
    search rules ∙ ecef_epoch_out a.a a.i a.raan0 a.u0 a.epoch a.t_orbit a.t_rotate _ (sym c.in_err-from.was ∙ c.try_from.ensures)

pub returns-in_err-t : goal.returns-in_err-t
returns-in_err-t c =
    let a = c.args in
    search rules ∙ ecef_t_out a.a a.i a.raan0 a.u0 a.epoch a.t_orbit a.t_rotate _ _ (sym c.in_ok-from.was ∙ c.try_from.ensures) (sym c.in_err-t.was ∙ c.try_from-2.ensures)

pub returns-in_err-rotate : goal.returns-in_err-rotate
returns-in_err-rotate c =
    let a = c.args in
    search rules ∙ ecef_rotate_out a.a a.i a.raan0 a.u0 a.epoch a.t_orbit a.t_rotate _ _ _ (sym c.in_ok-from.was ∙ c.try_from.ensures) (sym c.in_ok-t.was ∙ c.try_from-2.ensures) (sym c.in_err-rotate.was ∙ c.try_from-3.ensures)

pub jd_at-requires : goal.jd_at-requires
jd_at-requires c =
    let h = (at_is _ _ _ (sym c.in_ok-rotate.was ∙ c.try_from-3.ensures)).accepted in
    (omega (arith, h.low), omega (arith, h.high))

pub tau-requires : goal.tau-requires
tau-requires c =
    (within_sound 0 _ _ (lit≤ tt) (at_is _ _ _ (sym c.in_ok-t.was ∙ c.try_from-2.ensures)).accepted, within_sound 0 _ _ (lit≤ tt) (at_is _ _ _ (sym c.in_ok-from.was ∙ c.try_from.ensures)).accepted)

pub returns : goal.returns
returns c =
    let a = c.args in
    ecef_at_lem a.a a.i a.raan0 a.u0 a.epoch a.t_orbit a.t_rotate _ _ _ _ _ _
    (sym c.in_ok-from.was ∙ c.try_from.ensures) (sym c.in_ok-t.was ∙ c.try_from-2.ensures) (sym c.in_ok-rotate.was ∙ c.try_from-3.ensures)
    c.tau.ensures (turn_is _ _ _ _ c.jd_at.ensures c.rotation-turn.ensures) (propagated_at _ _ _ _ _ c.rates_of.ensures c.propagate.ensures)

-- `compute_rss` meets its contract. Assumes nothing.
use Rattle.std.proofs.Common.{rules, sym, ◌∙◌}
use Rattle.moment.proofs.Ranges.{at_is}
use Rattle.refusal.proofs.Lists.{err}
use Rattle.approach.proofs.Refusals.{epoch_out, set_out, set_in, station_is}
use Rattle.approach.proofs.compute_rss.Goals as goal

pub returns-in_err-t : goal.returns-in_err-t
returns-in_err-t c = search rules ∙ err _ (epoch_out c.args.epoch _ _ _ _ _ (sym c.in_err-t.was ∙ c.try_from.ensures))

pub returns-in_err-set : goal.returns-in_err-set
returns-in_err-set c =
    search rules ∙ err _ (set_out c.args.epoch _ _ _ _ _ (sym c.in_ok-t.was ∙ c.try_from.ensures) _ c.in_err-set.ensures)

pub rss-requires : goal.rss-requires
rss-requires c = (at_is _ _ _ (sym c.in_ok-t.was ∙ c.try_from.ensures)).accepted

pub returns : goal.returns
returns c =
    let a = c.args in
    let g = sym c.in_ok-t.was ∙ c.try_from.ensures in
    let s = c.in_ok-set.ensures in
    simp (set_in a.epoch _ _ _ _ _ g s.accepted, c.rss.ensures, s.counts_are, s.times_are, s.freqs_are, s.centers_are, station_is a.epoch a.center_freq a.rec_ecef _ g)

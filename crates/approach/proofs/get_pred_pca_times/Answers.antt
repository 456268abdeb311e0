-- `get_pred_pca_times` meets its contract. Assumes nothing.
use Rattle.std.proofs.Common.{rules, sym, ◌∙◌}
use Rattle.moment.proofs.Ranges.{at_is}
use Rattle.refusal.proofs.Lists.{err, ok}
use Rattle.approach.proofs.Refusals.{pca_epoch_out, pca_set_out, pca_short, pca_found, station_is}
use Rattle.approach.proofs.get_pred_pca_times.Goals as goal

pub returns-in_err-t : goal.returns-in_err-t
returns-in_err-t c =
    let e = pca_epoch_out c.args.epoch _ _ _ _ _ _ (sym c.in_err-t.was ∙ c.try_from.ensures) in
    record { answer = search rules ∙ err _ e; output = rw e }

pub returns-in_err-set : goal.returns-in_err-set
returns-in_err-set c =
    let e = pca_set_out c.args.epoch _ _ _ _ _ (sym c.in_ok-t.was ∙ c.try_from.ensures) _ _ c.in_err-set.ensures in
    record { answer = search rules ∙ err _ e; output = rw e }

pub returns-then-out-counts : goal.returns-then-out-counts
returns-then-out-counts c =
    let e = pca_short c.args.epoch _ _ _ _ _ (sym c.in_ok-t.was ∙ c.try_from.ensures) c.in_ok-set.ensures.accepted _ c.if-out-counts.true in
    record { answer = err _ e; output = rw e }

pub pca_times-requires : goal.pca_times-requires
pca_times-requires c = (
  (at_is _ _ _ (sym c.in_ok-t.was ∙ c.try_from.ensures)).accepted,
  rw c.in_ok-set.ensures.counts_are c.if-out-counts.false,
)

pub returns : goal.returns
returns c =
    let a = c.args in
    let g = sym c.in_ok-t.was ∙ c.try_from.ensures in
    let s = c.in_ok-set.ensures in
    let e = pca_found a.epoch _ _ _ _ _ g s.accepted _ c.if-out-counts.false in
    record { answer = ok _ e; output = rw (e, ← station_is a.epoch _ a.rec_ecef _ g) (rw (s.counts_are, s.times_are, s.freqs_are, s.centers_are) at c.pca_times.ensures) }

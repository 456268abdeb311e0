-- `pass_sum` meets its contract. Assumes nothing.
use borrow.Author.Tests.{eq-eqb, ne_eqb}
use lib.Dec.{lit≤}
use Rattle.moment.proofs.Samples.{within_sound, within_more}
use Rattle.approach.specs.Sums.{pass_sum_of, dt_of, hundred_bits}
use Rattle.approach.specs.Turns.{reach}
use Rattle.approach.proofs.Far.{shift}
use Rattle.approach.proofs.sums.pass_sum.Goals as goal

pub returns-then-pass-eq0 : goal.returns-then-pass-eq0
unfolding pass_sum_of
returns-then-pass-eq0 c = simp (eq-eqb _ _ c.if-pass-eq0.true)

pub tau_millis-dt-requires : goal.tau_millis-dt-requires
tau_millis-dt-requires c =
    (within_sound reach _ _ (lit≤ tt) c.pred_pca_time-pred.ensures.1, within_sound 0 _ _ (lit≤ tt) c.obs_pca_time-obs.ensures.1)

pub samples-requires : goal.samples-requires
samples-requires c =
    (shift _ _ c.pred_pca_time-pred.ensures.1 (within_more (lit≤ tt) c.obs_pca_time-obs.ensures.1) c.tau_millis-dt.ensures, c.requires.1)

pub returns : goal.returns
unfolding pass_sum_of dt_of
returns c =
    simp (
      c.samples.ensures,
      c.tau_millis-dt.ensures,
      c.obs_pca_time-obs.ensures.0,
      c.pred_pca_time-pred.ensures.0,
      ne_eqb _ _ c.if-pass-eq0.false,
      hundred_bits,
    )

-- `pred_pca_time` meets its contract. Assumes nothing.
use borrow.Author.Tests.{eq-eqb, ne_eqb}
use lib.Dec.{lit≤}
use Rattle.moment.proofs.Samples.{within_more}
use Rattle.approach.specs.Pca.{pred_pca_time}
use Rattle.approach.proofs.Tables.{window_at}
use Rattle.approach.proofs.pca.pred_pca_time.Goals as goal

pub returns-then-pass-eq0 : goal.returns-then-pass-eq0
unfolding pred_pca_time
returns-then-pass-eq0 c = (simp (eq-eqb _ _ c.if-pass-eq0.true), within_more (lit≤ tt) c.args.v.dated)

pub closest-requires : goal.closest-requires
closest-requires c =
    (c.obs_pca_time.ensures.1, window_at c.obs_pca_time.ensures.0 c.if-pass-eq0.false c.requires)

pub returns : goal.returns
unfolding pred_pca_time
returns c = (simp (c.closest.ensures.0, c.obs_pca_time.ensures.0, ne_eqb _ _ c.if-pass-eq0.false), c.closest.ensures.1)

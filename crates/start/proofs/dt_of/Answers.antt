-- `dt_of` meets its contract. Assumes nothing.
use Rattle.approach.specs.Sums.{dt_of}
use Rattle.approach.proofs.Tables.{no_window}
use Rattle.start.proofs.dt_of.Goals as goal

pub pred_pca_time-pred-requires : goal.pred_pca_time-pred-requires
pred_pca_time-pred-requires c = no_window _ _ _

pub returns : goal.returns
unfolding dt_of
returns c =
    simp (c.tau_millis.ensures, c.obs_pca_time-obs.ensures.0, c.pred_pca_time-pred.ensures.0)

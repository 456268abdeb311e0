-- `obs_pca_time` meets its contract. Assumes nothing.
use borrow.Author.Rules.{rules}
use Rattle.approach.specs.Pca.{obs_pca_time}
use Rattle.approach.proofs.pca.obs_pca_time.Goals as goal

pub returns : goal.returns
unfolding obs_pca_time
returns c = (rw c.obs_pca_at.ensures.0 at c.moment_at.ensures.0, search rules)

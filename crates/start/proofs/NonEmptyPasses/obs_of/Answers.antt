-- `obs_of` meets its contract. Assumes nothing.
use Rattle.start.proofs.Passes.{some, pass_obs}
use Rattle.start.proofs.NonEmptyPasses.obs_of.Goals as goal

pub obs_pca_time-requires : goal.obs_pca_time-requires
obs_pca_time-requires c = some c.args.self.now.sampled c.requires.1 c.pass.ensures.freqs

pub returns : goal.returns
returns c = (pass_obs _ _ _ _ _ _ _ _ c.pass.ensures.times c.pass.ensures.freqs c.obs_pca_time.ensures.0, c.obs_pca_time.ensures.1)

use Rattle.noise.specs.Noise.{weight_size}
use Rattle.noise.proofs.size.Goals as goal

pub returns : goal.returns
unfolding weight_size
returns c = c.sqrt.ensures

use Rattle.float.specs.Ops.{one_bits}
use Rattle.noise.specs.Noise.{weights_of}
use Rattle.noise.proofs.weights.Goals as goal

pub returns : goal.returns
unfolding weights_of
returns c = simp one_bits

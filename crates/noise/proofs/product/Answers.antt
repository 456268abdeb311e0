use mathlib.Core.Path.{refl}
use Rattle.noise.specs.Noise.{product_of}
use Rattle.noise.proofs.product.Goals as goal

pub returns : goal.returns
unfolding product_of
returns c = refl

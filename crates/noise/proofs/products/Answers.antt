use Rattle.noise.specs.Noise.{products_at}
use Rattle.noise.proofs.products.Goals as goal

pub returns : goal.returns
unfolding products_at
returns c = simp (c.products_of.ensures, c.moments-t.ensures)

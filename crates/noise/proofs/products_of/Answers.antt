use Rattle.noise.specs.Noise.{products_of}
use Rattle.noise.proofs.products_of.Goals as goal

pub returns : goal.returns
unfolding products_of
returns c =
    simp (c.product.ensures, c.product-2.ensures, c.product-3.ensures, c.product-4.ensures, c.product-5.ensures)

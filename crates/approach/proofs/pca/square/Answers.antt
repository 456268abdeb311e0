-- `square` meets its contract. Assumes nothing.
use Rattle.approach.specs.Pca.{square_of}
use Rattle.approach.proofs.pca.square.Goals as goal

pub returns : goal.returns
unfolding square_of
returns c = c.dot.ensures

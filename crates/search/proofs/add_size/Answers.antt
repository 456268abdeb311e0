-- `add_size` meets its contract. Assumes nothing.
use Rattle.search.specs.Step.{size_added}
use Rattle.search.proofs.add_size.Goals as goal

pub returns : goal.returns
unfolding size_added
returns c = simp (c.abs.ensures, c.difference_at.ensures)

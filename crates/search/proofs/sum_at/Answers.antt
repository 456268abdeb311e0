-- `sum_at` meets its contract. Assumes nothing.
use Rattle.search.specs.Sum.{fixed_sum}
use Rattle.search.proofs.sum_at.Goals as goal

pub returns : goal.returns
unfolding fixed_sum
returns c = simp (c.rss.ensures, c.elements.ensures)

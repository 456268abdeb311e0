-- `finished` meets its contract. Assumes nothing.
use Rattle.search.specs.Search.{finished_of}
use Rattle.search.proofs.finished.Goals as goal

pub returns : goal.returns
unfolding finished_of
returns c = simp (c.kept-best.ensures, c.sum_at-final_rss.ensures)

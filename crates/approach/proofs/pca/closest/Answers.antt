-- `closest` meets its contract. Assumes nothing.
use borrow.Author.Rules.{rules}
use Rattle.float.specs.Ops.{largest_bits}
use Rattle.approach.specs.Pca.{closest_of, closest_secs}
use Rattle.approach.proofs.pca.closest.Goals as goal

pub returns : goal.returns
unfolding closest_of closest_secs
returns c =
    (simp (c.search_around-best-3.ensures.0, c.search_around-best-2.ensures.0, c.search_around-best.ensures.0, largest_bits), search rules)

-- `kept` meets its contract. Assumes nothing.
use Rattle.search.specs.Step.{kept_of}
use Rattle.search.proofs.kept.Goals as goal

pub returns-then-rss-best : goal.returns-then-rss-best
unfolding kept_of
returns-then-rss-best c = simp c.if-rss-best.true

pub returns-else-rss-best : goal.returns-else-rss-best
unfolding kept_of
returns-else-rss-best c = simp c.if-rss-best.false

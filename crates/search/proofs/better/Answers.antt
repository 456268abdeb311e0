-- `better` meets its contract. Assumes nothing.
use Rattle.search.specs.Search.{better_of}
use Rattle.search.proofs.better.Goals as goal

pub returns-then-b-a : goal.returns-then-b-a
unfolding better_of
returns-then-b-a c = simp c.if-b-a.true

pub returns-else-b-a : goal.returns-else-b-a
unfolding better_of
returns-else-b-a c = simp c.if-b-a.false

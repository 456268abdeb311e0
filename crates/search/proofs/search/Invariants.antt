-- `search` meets its contract. Assumes nothing.
use Rattle.std.proofs.Common.{◌≡◌, ◌-◌, ◌≤◌}
use Rattle.loops.proofs.Laws.{Left}
use Rattle.search.specs.Sum.{sum_of}
use Rattle.search.specs.Search.{generator_of, with_start, search_of}
use Rattle.search.proofs.search.Given as goal

abbrev pub invariant-loop-j : goal.invariant-loop-j
invariant-loop-j l =
    (l.j ≤ l.end) × (l.rng ≡ generator_of l.j) × Left l.j l.end (with_start (sum_of l.p)) l.best (search_of (sum_of l.p) l.first l.count)

abbrev pub decreases-loop-j : goal.decreases-loop-j
decreases-loop-j l = l.end - l.j

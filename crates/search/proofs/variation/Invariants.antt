-- `variation` meets its contract. Assumes nothing.
use Rattle.std.proofs.Common.{◌-◌, ◌≤◌, length}
use Rattle.loops.proofs.Laws.{Left}
use Rattle.search.specs.Step.{size_added, variation_of}
use Rattle.search.proofs.variation.Given as goal

abbrev pub invariant-loop-i : goal.invariant-loop-i
invariant-loop-i l = (l.i ≤ length l.x) × Left l.i (length l.x) (size_added l.x) l.sum (variation_of l.x)

abbrev pub decreases-loop-i : goal.decreases-loop-i
decreases-loop-i l = length l.x - l.i

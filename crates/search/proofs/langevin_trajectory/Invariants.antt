-- `langevin_trajectory` meets its contract. Assumes nothing.
use Rattle.std.proofs.Common.{◌-◌, ◌≤◌}
use Rattle.loops.specs.Loop.{for}
use Rattle.loops.proofs.Laws.{Left}
use Rattle.search.specs.Sum.{sum_of}
use Rattle.search.specs.Step.{step_of}
use Rattle.search.proofs.langevin_trajectory.Given as goal

abbrev pub invariant-loop-k : goal.invariant-loop-k
invariant-loop-k l =
    (l.k ≤ 15) × Left l.k 15 (step_of (sum_of l.p)) l.w (for 0 15 (step_of (sum_of l.p)) l.initial.w)

abbrev pub decreases-loop-k : goal.decreases-loop-k
decreases-loop-k l = 15 - l.k

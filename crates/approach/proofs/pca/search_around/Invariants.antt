-- `search_around` meets its contract. Assumes nothing.
use Prim.Native.Nat.{◌+◌, ◌-◌, ◌*◌, ◌≤◌}
use Rattle.loops.proofs.Laws.{Left}
use Rattle.approach.specs.Turns.{Beside}
use Rattle.approach.specs.Pca.{closer_of, searched_of}
use Rattle.approach.proofs.pca.search_around.Given as goal

abbrev pub invariant-loop-m : goal.invariant-loop-m
invariant-loop-m l =
    (l.m ≤ l.stage.n) × Beside l.stage.half l.initial.best.secs l.best.secs
    × Left l.m l.stage.n (λ m. closer_of l.v.sight.station l.v.sight.e l.nanos (l.initial.best.secs - l.stage.half + l.stage.step * m)) l.best (searched_of l.v.sight.station l.v.sight.e l.nanos l.stage l.initial.best)

abbrev pub decreases-loop-m : goal.decreases-loop-m
decreases-loop-m l = l.stage.n - l.m

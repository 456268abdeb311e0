-- `subtract` meets its contract. Assumes nothing.
use lib.ListN.{length}
use mathlib.Core.Path.{◌≡◌}
use Rattle.loops.proofs.Laws.{Left}
use Rattle.normal.specs.Step.{subtract_at, subtracted}
use Rattle.normal.proofs.subtract.Given as goal

abbrev pub invariant-loop-k : goal.invariant-loop-k
invariant-loop-k l = (length l.x ≡ length l.initial.x) × Left l.k (length l.delta) (subtract_at l.delta) l.x (subtracted (length l.delta) l.delta l.initial.x)

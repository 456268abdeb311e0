-- `largest_step` meets its contract. Assumes nothing.
use lib.ListN.{length}
use Rattle.loops.proofs.Laws.{Left}
use Rattle.normal.specs.Step.{largest_step, relative}
use Rattle.normal.proofs.largest_step.Given as goal

abbrev pub invariant-loop-p : goal.invariant-loop-p
invariant-loop-p l = Left (length l.yielded) (length l.delta) (relative l.x l.delta) l.largest (largest_step (length l.delta) l.x l.delta)

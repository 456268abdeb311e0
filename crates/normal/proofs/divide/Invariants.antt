-- `divide` meets its contract. Assumes nothing.
use lib.ListN.{length}
use mathlib.Core.Path.{◌≡◌}
use Rattle.loops.proofs.Laws.{Left}
use Rattle.normal.specs.Step.{divide_at, divided}
use Rattle.normal.proofs.divide.Given as goal

abbrev pub invariant-loop-k : goal.invariant-loop-k
invariant-loop-k l = (length l.v ≡ length l.initial.v) × Left l.k (length l.initial.v) (divide_at l.f) l.v (divided (length l.initial.v) l.f l.initial.v)

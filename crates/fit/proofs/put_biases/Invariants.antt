-- `put_biases` meets its contract. Assumes nothing.
use mathlib.Core.Path.{◌≡◌}
use mathlib.Core.List.{◌++◌}
use Prim.Native.Nat.{◌-◌, ◌≤◌}
use lib.ListN.{length, drop}
use Rattle.fit.specs.Answer.{biases}
use Rattle.fit.proofs.put_biases.Given as goal

abbrev pub invariant-loop-p : goal.invariant-loop-p
invariant-loop-p l = (l.p ≤ l.passes) × (length l.out ≡ length l.initial.out) × (l.out ≡ biases l.k l.x l.p ++ drop l.p l.initial.out)

abbrev pub decreases-loop-p : goal.decreases-loop-p
decreases-loop-p l = l.passes - l.p

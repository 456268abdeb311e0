-- `any_large` meets its contract. Assumes nothing.
use mathlib.Core.Path.{◌≡◌}
use Prim.Native.Nat.{◌-◌, ◌≤◌}
use Rattle.fit.specs.Answer.{biases, any_large}
use Rattle.fit.proofs.any_large.Given as goal

abbrev pub invariant-loop-p : goal.invariant-loop-p
invariant-loop-p l = (l.p ≤ l.passes) × (l.large ≡ any_large (biases 1 l.x l.p))

abbrev pub decreases-loop-p : goal.decreases-loop-p
decreases-loop-p l = l.passes - l.p

-- `rotations` meets its contract. Assumes nothing.
use mathlib.Core.Path.{◌≡◌}
use Prim.Native.Nat.{◌≤◌}
use lib.ListN.{length}
use Rattle.residuals.proofs.Samples.{Written}
use Rattle.residuals.proofs.rotations.Given as goal

abbrev pub invariant-loop-k : goal.invariant-loop-k
invariant-loop-k l = (l.k ≤ length l.times) × (length l.turns ≡ length l.initial.turns) × Written l.times l.initial.turns l.k l.turns

-- `counts_at` meets its contract: what is written, then the counts still to come, are all. Assumes nothing.
use mathlib.Core.Path.{◌≡◌}
use Prim.Native.Nat.{◌≤◌}
use lib.ListN.{length}
use Rattle.residuals.proofs.Samples.{Counted}
use Rattle.residuals.proofs.counts_at.Given as goal

abbrev pub invariant-loop-k : goal.invariant-loop-k
invariant-loop-k l = (l.k ≤ length l.times) × (length l.out ≡ length l.initial.out) × Counted l.times l.k l.out

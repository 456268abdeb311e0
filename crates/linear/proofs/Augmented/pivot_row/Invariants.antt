-- `Augmented::pivot_row` meets its contract. Assumes nothing.
use Prim.Native.Nat.{◌<◌}
use Rattle.loops.proofs.Laws.{Left}
use Rattle.linear.specs.Elimination.{larger_pivot, pivot_row}
use Rattle.linear.proofs.Augmented.pivot_row.Given as goal

abbrev pub invariant-loop-r : goal.invariant-loop-r
invariant-loop-r l = (l.m < l.self.n) × Left l.r l.self.n (larger_pivot l.self.n l.self.entries.now l.i) l.m (pivot_row l.self.n l.self.entries.now l.i)

-- `Augmented::eliminate_row` meets its contract. Assumes nothing.
use mathlib.Core.Path.{◌≡◌}
use Prim.Native.Nat.{◌+◌}
use Rattle.loops.proofs.Laws.{Left}
use Rattle.linear.specs.Elimination.{eliminate_entry, eliminate_row}
use Rattle.linear.proofs.Augmented.eliminate_row.Given as goal

abbrev pub invariant-loop-c : goal.invariant-loop-c
invariant-loop-c l = (l.self.n ≡ l.initial.self.n) × Left l.c (l.initial.self.n + 1) (eliminate_entry l.initial.self.n l.i l.r l.factor) l.self.entries.now (eliminate_row l.initial.self.n l.i l.r l.initial.self.entries.now)

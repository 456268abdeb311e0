-- `Augmented::swap_rows` meets its contract. Assumes nothing.
use mathlib.Core.Path.{◌≡◌}
use Prim.Native.Nat.{◌+◌}
use Rattle.linear.specs.Elimination.{swap_entries, swap_rows}
use Rattle.loops.proofs.Laws.{Left}
use Rattle.linear.proofs.Augmented.swap_rows.Given as goal

abbrev pub invariant-loop-c : goal.invariant-loop-c
invariant-loop-c l = (l.self.n ≡ l.initial.self.n) × Left l.c (l.initial.self.n + 1) (swap_entries l.initial.self.n l.i l.m) l.self.entries.now (swap_rows l.initial.self.n l.i l.m l.initial.self.entries.now)

-- `Augmented::augment_row` meets its contract. Assumes nothing.
use mathlib.Core.Path.{◌≡◌}
use Rattle.loops.specs.Loop.{for}
use Rattle.loops.proofs.Laws.{Left}
use Rattle.linear.specs.Elimination.{augment_entry}
use Rattle.linear.proofs.Augmented.augment_row.Given as goal

abbrev pub invariant-loop-c : goal.invariant-loop-c
invariant-loop-c l = (l.self.n ≡ l.initial.self.n) × Left l.c l.initial.self.n (augment_entry l.initial.self.n l.m l.r) l.self.entries.now (for 0 l.initial.self.n (augment_entry l.initial.self.n l.m l.r) l.initial.self.entries.now)

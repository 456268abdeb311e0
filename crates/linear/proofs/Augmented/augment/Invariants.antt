-- `Augmented::augment` meets its contract. Assumes nothing.
use mathlib.Core.Path.{◌≡◌}
use Rattle.loops.specs.Loop.{for}
use Rattle.loops.proofs.Laws.{Left}
use Rattle.linear.specs.Elimination.{augment_row}
use Rattle.linear.proofs.Augmented.augment.Given as goal

abbrev pub invariant-loop-r : goal.invariant-loop-r
invariant-loop-r l = (l.self.n ≡ l.initial.self.n) × Left l.r l.initial.self.n (augment_row l.initial.self.n l.m l.v) l.self.entries.now (for 0 l.initial.self.n (augment_row l.initial.self.n l.m l.v) l.initial.self.entries.now)

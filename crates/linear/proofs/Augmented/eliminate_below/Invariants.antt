-- `Augmented::eliminate_below` meets its contract. Assumes nothing.
use mathlib.Core.Path.{◌≡◌}
use Rattle.loops.proofs.Laws.{Left}
use Rattle.linear.specs.Elimination.{eliminate_row, eliminate_below}
use Rattle.linear.proofs.Augmented.eliminate_below.Given as goal

abbrev pub invariant-loop-r : goal.invariant-loop-r
invariant-loop-r l = (l.self.n ≡ l.initial.self.n) × Left l.r l.initial.self.n (eliminate_row l.initial.self.n l.i) l.self.entries.now (eliminate_below l.initial.self.n l.i l.initial.self.entries.now)

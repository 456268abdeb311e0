-- `Augmented::forward_elimination` meets its contract. Assumes nothing.
use mathlib.Core.Path.{◌≡◌}
use Rattle.loops.proofs.Laws.{Tries}
use Rattle.linear.specs.Elimination.{reduce_column, forward_elimination}
use Rattle.linear.proofs.Augmented.forward_elimination.Given as goal

abbrev pub invariant-loop-i : goal.invariant-loop-i
invariant-loop-i l = (l.self.n ≡ l.initial.self.n) × Tries l.i l.initial.self.n (reduce_column l.initial.self.n) l.self.entries.now (forward_elimination l.initial.self.n l.initial.self.entries.now)

-- `Augmented::back_substitution` meets its contract. Assumes nothing.
use mathlib.Core.Path.{◌≡◌}
use lib.ListN.{length}
use Rattle.loops.specs.Loop.{rev}
use Rattle.loops.proofs.Laws.{Down}
use Rattle.linear.specs.Elimination.{substitute_row}
use Rattle.linear.proofs.Augmented.back_substitution.Given as goal

abbrev pub invariant-loop-r : goal.invariant-loop-r
invariant-loop-r l = (length l.sol ≡ l.self.n) × Down l.r (substitute_row l.self.n l.self.entries.now) l.sol (rev l.self.n (substitute_row l.self.n l.self.entries.now) l.initial.sol)

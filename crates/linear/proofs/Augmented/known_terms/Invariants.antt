-- `Augmented::known_terms` meets its contract. Assumes nothing.
use Rattle.float.specs.Ops.{bits}
use Rattle.loops.specs.Loop.{for}
use Prim.Native.Nat.{◌+◌}
use Rattle.loops.proofs.Laws.{Left}
use Rattle.linear.specs.Elimination.{add_term}
use Rattle.linear.proofs.Augmented.known_terms.Given as goal

abbrev pub invariant-loop-c : goal.invariant-loop-c
invariant-loop-c l = Left l.c l.self.n (add_term l.self.n l.self.entries.now l.sol l.r) l.s (for (l.r + 1) l.self.n (add_term l.self.n l.self.entries.now l.sol l.r) (bits 0))

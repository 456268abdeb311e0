-- `Equations::damp` meets its contract. Assumes nothing.
use mathlib.Core.Path.{◌≡◌}
use Rattle.loops.proofs.Laws.{Left}
use Rattle.normal.specs.Step.{damp_cell, damped}
use Rattle.normal.proofs.Equations.damp.Given as goal

abbrev pub invariant-loop-k : goal.invariant-loop-k
invariant-loop-k l = (l.self.n ≡ l.initial.self.n) × (l.self.jt_r.now ≡ l.initial.self.jt_r.now) × Left l.k l.initial.self.n (damp_cell l.initial.self.n l.lambda) l.self.jt_j.now (damped l.initial.self.n l.lambda l.initial.self.jt_j.now)

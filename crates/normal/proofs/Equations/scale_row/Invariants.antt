-- `Equations::scale_row` meets its contract. Assumes nothing.
use mathlib.Core.Path.{◌≡◌}
use Rattle.loops.proofs.Laws.{Left}
use Rattle.normal.specs.Step.{scale_cell, scale_row}
use Rattle.normal.proofs.Equations.scale_row.Given as goal

abbrev pub invariant-loop-c : goal.invariant-loop-c
invariant-loop-c l = (l.self.n ≡ l.initial.self.n) × (l.self.jt_r.now ≡ l.initial.self.jt_r.now) × Left l.c l.initial.self.n (scale_cell l.initial.self.n l.f l.r) l.self.jt_j.now (scale_row l.initial.self.n l.f l.r l.initial.self.jt_j.now)

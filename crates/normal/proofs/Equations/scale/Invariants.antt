-- `Equations::scale` meets its contract. Assumes nothing.
use mathlib.Core.Path.{◌≡◌}
use Rattle.loops.proofs.Laws.{Left}
use Rattle.normal.specs.Step.{scale_row, scaled}
use Rattle.normal.proofs.Equations.scale.Given as goal

abbrev pub invariant-loop-r : goal.invariant-loop-r
invariant-loop-r l = (l.self.n ≡ l.initial.self.n) × (l.self.jt_r.now ≡ l.initial.self.jt_r.now) × Left l.r l.initial.self.n (scale_row l.initial.self.n l.f) l.self.jt_j.now (scaled l.initial.self.n l.f l.initial.self.jt_j.now)

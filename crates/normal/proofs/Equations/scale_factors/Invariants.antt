-- `Equations::scale_factors` meets its contract. Assumes nothing.
use lib.ListN.{length}
use mathlib.Core.Path.{◌≡◌}
use Rattle.loops.proofs.Laws.{Left}
use Rattle.normal.specs.Step.{scales, set_scale}
use Rattle.normal.proofs.Equations.scale_factors.Given as goal

abbrev pub invariant-loop-i : goal.invariant-loop-i
invariant-loop-i l = (length l.f ≡ l.self.n) × Left l.i l.self.n (set_scale l.self.n l.self.jt_j.now) l.f (scales l.self.n l.self.jt_j.now)

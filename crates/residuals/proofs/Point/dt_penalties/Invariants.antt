-- `Point::dt_penalties` meets its contract: what is written, then the penalties still to come, is the whole. Assumes nothing.
use Rattle.std.proofs.Common.{◌≡◌, ◌-◌, length}
use mathlib.Core.List.{◌++◌}
use lib.ListN.{take}
use Rattle.residuals.specs.Residuals.{dt_penalties}
use Rattle.residuals.proofs.Laws.{flag}
use Rattle.residuals.proofs.Point.dt_penalties.Given as goal

abbrev pub invariant-loop-p : goal.invariant-loop-p
invariant-loop-p g l =
    take l.p l.out ++ dt_penalties (flag g.row.SECOND) l.self.params l.p (length l.initial.out - l.p) ≡ dt_penalties (flag g.row.SECOND) l.self.params 0 (length l.initial.out)

-- `Point::drift_penalties` meets its contract, as `dt_penalties` does, with two stores a turn. Assumes nothing.
use Rattle.std.proofs.Common.{◌≡◌, ◌-◌, ◌*◌}
use mathlib.Core.List.{◌++◌}
use lib.ListN.{take}
use Rattle.residuals.specs.Residuals.{drift_penalties}
use Rattle.residuals.proofs.Point.drift_penalties.Given as goal

abbrev pub invariant-loop-p : goal.invariant-loop-p
invariant-loop-p g l =
    take (2 * l.p) l.out ++ drift_penalties l.self.params l.p (l.passes - l.p) ≡ drift_penalties l.self.params 0 l.passes

-- `count_at` meets its contract. Assumes nothing.
use mathlib.Core.Path.{refl}
use native.Mathlib.Omega.{arith}
use mir.Syntax.{w64}
use mir.ValLaws.{to_z-of_z}
use Rattle.moment.specs.Origin.{count1970}
use Rattle.moment.proofs.Samples.{ranged, add_shift, read_shift}
use Rattle.residuals.proofs.count_at.Goals as goal

pub overflow_add-result : goal.overflow_add-result
overflow_add-result c =
    let r = ranged c.args.t c.requires in
    rw (to_z-of_z w64 c.args.t c.ranges.t, add_shift count1970 c.args.t r.size) (record { sfits = omega arith })

pub overflow_cast-result : goal.overflow_cast-result
overflow_cast-result c =
    let r = ranged c.args.t c.requires in
    rw (read_shift count1970 c.args.t c.ranges.t r.size (omega arith)) (tt, record { fits = omega arith })

pub returns : goal.returns
returns c =
    let r = ranged c.args.t c.requires in
    rw (read_shift count1970 c.args.t c.ranges.t r.size (omega arith)) refl

-- `of_nanos` meets its contract. Assumes nothing.
use Rattle.std.proofs.Common.{arith, w64}
use mir.ValLaws.{to_z-of_z}
use Rattle.moment.specs.Origin.{count1970}
use Rattle.moment.proofs.Samples.{ranged, add_shift, read_shift, of_nanos}
use Rattle.moment.proofs.sample.of_nanos.Goals as goal

pub overflow_add-n : goal.overflow_add-n
overflow_add-n c =
    let r = ranged c.args.t c.requires in
    rw (to_z-of_z w64 c.args.t c.ranges.t, add_shift count1970 c.args.t r.size) (record { sfits = omega arith })

pub overflow_cast-n : goal.overflow_cast-n
overflow_cast-n c =
    let r = ranged c.args.t c.requires in
    rw (read_shift count1970 c.args.t c.ranges.t r.size (omega arith)) (tt, record { fits = omega arith })

pub overflow_add-result : goal.overflow_add-result
overflow_add-result c =
    let r = ranged c.args.t c.requires in
    rw (read_shift count1970 c.args.t c.ranges.t r.size (omega arith)) (record { fits = omega arith })

pub returns : goal.returns
returns c =
    let r = ranged c.args.t c.requires in
    rw (read_shift count1970 c.args.t c.ranges.t r.size (omega arith)) (of_nanos c.args.t c.requires)

use Rattle.float.specs.Trig.{quarters_of, quarter_bits}
use Rattle.float.proofs.Angle.{Turned, counted_below, counted_above, arm_below, arm_above, arm_zero}
use Rattle.float.proofs.trig.reduce.Goals as goal

pub nearest_whole-k-requires : goal.nearest_whole-k-requires
unfolding quarters_of
nearest_whole-k-requires c =
    let e = c.turn_rest-z.ensures in
    rw (e, quarter_bits) (counted_below c.args.v (rw (e, quarter_bits) at c.if-y.true))

pub nearest_whole-k-requires-then-y-2 : goal.nearest_whole-k-requires-then-y-2
unfolding quarters_of
nearest_whole-k-requires-then-y-2 c =
    let e = c.turn_rest-z.ensures in
    rw (e, quarter_bits) (counted_above c.args.v (rw (e, quarter_bits) at c.if-y-2.true))

pub returns-then-y : goal.returns-then-y
unfolding Turned quarters_of
returns-then-y c =
    let e = c.turn_rest-z.ensures in
    rw (e, quarter_bits) (arm_below c.args.v c.nearest_whole-k.result (rw (e, quarter_bits) at c.if-y.true) (rw (e, quarter_bits) at c.nearest_whole-k.ensures))

pub returns-then-y-2 : goal.returns-then-y-2
unfolding Turned quarters_of
returns-then-y-2 c =
    let e = c.turn_rest-z.ensures in
    rw (e, quarter_bits) (arm_above c.args.v c.nearest_whole-k-then-y-2.result (rw (e, quarter_bits) at c.if-y-2.true) (rw (e, quarter_bits) at c.nearest_whole-k-then-y-2.ensures))

pub returns-else-y-2 : goal.returns-else-y-2
unfolding Turned quarters_of
returns-else-y-2 c =
    let e = c.turn_rest-z.ensures in
    rw (e, quarter_bits) (arm_zero c.args.v (rw (e, quarter_bits) at c.if-y.false) (rw (e, quarter_bits) at c.if-y-2.false))

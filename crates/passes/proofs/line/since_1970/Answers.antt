-- `passes::line::since_1970` meets its contract. Assumes nothing.
use native.Mathlib.Omega.{arith}
use Rattle.passes.proofs.Times.{is_inside, most, shift_fits, shift}
use Rattle.passes.proofs.line.since_1970.Goals as goal

pub overflow_sub-result : goal.overflow_sub-result
overflow_sub-result c = (is_inside c.args.t.seconds c.args.t.nanos c.requires).low

pub overflow_mul-result : goal.overflow_mul-result
overflow_mul-result c = record { fits = omega (arith, most c.args.t.seconds c.args.t.nanos (is_inside c.args.t.seconds c.args.t.nanos c.requires)) }

pub overflow_add-result : goal.overflow_add-result
overflow_add-result c = record { fits = omega (arith, most c.args.t.seconds c.args.t.nanos (is_inside c.args.t.seconds c.args.t.nanos c.requires)) }

pub overflow_cast-result : goal.overflow_cast-result
overflow_cast-result c = record { sfits = omega (arith, most c.args.t.seconds c.args.t.nanos (is_inside c.args.t.seconds c.args.t.nanos c.requires)) }

pub overflow_sub-result-2 : goal.overflow_sub-result-2
overflow_sub-result-2 c = shift_fits c.args.t.seconds c.args.t.nanos c.requires

pub returns : goal.returns
returns c = shift c.args.t.seconds c.args.t.nanos c.requires

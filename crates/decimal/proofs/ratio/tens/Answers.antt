-- `decimal::ratio::tens` meets its contract: x is d * 10 ^ i after i turns. Assumes nothing.
use mathlib.Core.Path.{◌∙◌}
use native.Mathlib.Omega.{arith}
use Rattle.decimal.specs.Wide.{val}
use Rattle.decimal.proofs.Doubling.{tens_room, tens_next}
use Rattle.decimal.proofs.ratio.tens.Goals as goal

pub times-x-requires : goal.times-x-requires
times-x-requires c = (omega arith, tens_room c.args.d c.loop.counter c.args.k (val c.loop.x) c.loop.invariant (omega arith) c.requires)

pub loop-preserved : goal.loop-preserved
loop-preserved c = c.times-x.ensures ∙ tens_next c.args.d c.loop.counter (val c.loop.x) c.loop.invariant

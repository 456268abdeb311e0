-- `decimal::ratio::room` meets its contract. Assumes nothing.
use Prim.Native.Nat.{◌/◌}
use native.Mathlib.Omega.{arith}
use lib.Count.{leading_le}
use Rattle.decimal.proofs.Quick.{raised_fits}
use Rattle.decimal.proofs.ratio.room.Goals as goal

pub returns : goal.returns
returns c =
    let d = c.args.d in
    let l = leading_le 64 (d / c.args.b) in
    (omega arith, raised_fits d c.min.result c.ranges.d.fits (omega arith))

-- `decimal::wide::Wide::minus` meets its contract. Assumes nothing.
use Prim.Native.Nat.{◌+◌, ◌-◌, ◌/◌}
use Rattle.decimal.specs.Wide.{val}
use Rattle.decimal.proofs.Columns.{B, Steps, minus_all, minus_fits}
use Rattle.decimal.proofs.wide.Wide.minus.Goals.{Start}
use Rattle.decimal.proofs.wide.Wide.minus.Goals as goal

-- what each step asks
asks : (c : Start) → let x = c.args.self in let y = c.args.y in Steps x.hi x.mid x.lo y.hi y.mid y.lo ((B + x.lo - y.lo) / B) ((B - 1 + (B + x.lo - y.lo) / B + x.mid - y.mid) / B)
unfolding val
asks c =
    let x = c.args.self in
    let y = c.args.y in
    minus_fits x.hi x.mid x.lo y.hi y.mid y.lo x.hi_below x.mid_below x.lo_below y.mid_below y.lo_below c.requires

pub overflow_sub-hi : goal.overflow_sub-hi
overflow_sub-hi c = (asks (goal.at.overflow_sub-hi c).Start).6

pub overflow_sub-hi-2 : goal.overflow_sub-hi-2
overflow_sub-hi-2 c = (asks (goal.at.overflow_sub-hi-2 c).Start).7

pub returns : goal.returns
unfolding val
returns c =
    let x = c.args.self in
    let y = c.args.y in
    minus_all x.hi x.mid x.lo y.hi y.mid y.lo x.mid_below x.lo_below y.mid_below y.lo_below c.requires

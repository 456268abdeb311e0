-- `decimal::wide::Wide::times` meets its contract. Assumes nothing.
use native.Mathlib.Nat.{mod-lt}
use lib.Dec.{lit<}
use Rattle.decimal.specs.Wide.{val}
use Rattle.decimal.proofs.Columns.{times_room, times_all}
use Rattle.decimal.proofs.wide.Wide.times.Goals as goal

pub invariant_of-result : goal.invariant_of-result
unfolding val
invariant_of-result c =
    let x = c.args.self in
    record { hi_below = times_room x.hi x.mid x.lo c.args.k c.requires.1; mid_below = mod-lt _ (lit< tt); lo_below = mod-lt _ (lit< tt) }

pub returns : goal.returns
unfolding val
returns c = let x = c.args.self in times_all x.hi x.mid x.lo c.args.k

-- `decimal::ratio::raised` meets its contract: x times its power of two stays, and the doublings so far make x at least as many powers of two. Assumes nothing.
use mathlib.Core.Path.{sym, ap, ◌∙◌}
use Prim.Native.Nat.{ℕ, ◌-◌, ◌*◌, ◌^◌, ◌≤◌, ◌<◌}
use native.Mathlib.Nat.{le_trans, le_of_eq, lt_trans, lt_of_le_of_lt, mul-lt-mul_of_pos_right}
use native.Mathlib.Omega.{arith}
use lib.Dec.{lit<}
use Rattle.decimal.specs.Wide.{val}
use Rattle.laws.proofs.Numbers.{pow_lt_back}
use Rattle.decimal.proofs.Doubling.{traded, grown, positive, double_room}
use Rattle.decimal.proofs.Ordered.{below, not_below}
use Rattle.decimal.proofs.ratio.raised.Goals.{In-loop-low}
use Rattle.decimal.proofs.ratio.raised.Goals as goal

-- x is still below m, so there were fewer than 164 doublings
under : (c : In-loop-low) → val c.loop-low.x < val c.args.low.x
under c = below c.loop-low.x c.args.low.x c.lt.ensures c.loop-low-test.true

left : (c : In-loop-low) → 1 ≤ c.loop-low.k
left c =
    let l = c.loop-low in
    positive c.args.low.k l.k c.requires.3 (pow_lt_back (c.args.low.k - l.k) 164 (lt_of_le_of_lt l.invariant.3 (lt_trans (under c) c.requires.2)))

pub times-x-requires : goal.times-x-requires
times-x-requires c = (omega arith, double_room (val c.loop-low.x) (lt_trans (under (goal.at.times-x-requires c).In-loop-low) c.requires.2))

pub overflow_sub-k : goal.overflow_sub-k
overflow_sub-k c = left (goal.at.overflow_sub-k c).In-loop-low

pub loop-low-smaller : goal.loop-low-smaller
loop-low-smaller c = omega (arith, left (goal.at.loop-low-smaller c).In-loop-low)

pub loop-low-preserved : goal.loop-low-preserved
loop-low-preserved c =
    let l = c.loop-low in
    let t = c.times-x.ensures in (
      lt_of_le_of_lt (le_of_eq t) (mul-lt-mul_of_pos_right (under (goal.at.loop-low-preserved c).In-loop-low) (lit< tt)),
      ap (λ (y : ℕ). y * 2 ^ (l.k - 1)) t ∙ traded (val l.x) l.k (val c.args.n * 2 ^ c.args.low.k) (left (goal.at.loop-low-preserved c).In-loop-low) l.invariant.1,
      omega (arith, l.invariant.2),
      le_trans (grown (val l.x) c.args.low.k l.k (left (goal.at.loop-low-preserved c).In-loop-low) l.invariant.2 l.invariant.3) (le_of_eq (sym t)),
    )

pub returns : goal.returns
returns c =
    let l = c.loop-low in
    (not_below l.x c.args.low.x c.lt.ensures c.loop-low-test.false, l.invariant.0, l.invariant.1, l.invariant.2)

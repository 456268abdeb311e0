-- `decimal::ratio::lowered` meets its contract: x is m * 2 ^ (k - 1022) at each turn. Assumes nothing.
use mathlib.Core.Path.{◌∙◌}
use Prim.Native.Nat.{◌-◌, ◌≤◌, ◌<◌}
use native.Mathlib.Nat.{le_of_eq, lt_of_lt_of_le, lt_of_le_of_lt}
use native.Mathlib.Omega.{arith}
use Rattle.decimal.specs.Wide.{val}
use Rattle.decimal.proofs.Doubling.{doubled, doubled_pos, doubled_few, shrinks}
use Rattle.decimal.proofs.Ordered.{below, not_below}
use Rattle.decimal.proofs.ratio.lowered.Goals.{At-loop-n, Else-lt}
use Rattle.decimal.proofs.ratio.lowered.Goals as goal

-- fewer than 164 doublings
few : (c : At-loop-n) → c.loop-n.k - 1022 < 164
few c = doubled_few (val c.args.m) (c.loop-n.k - 1022) (val c.loop-n.x) 164 c.requires.1 c.loop-n.invariant.2 c.loop-n.invariant.0

-- the double is no more than n
reached : (c : Else-lt) → val c.times-t.result ≤ val c.args.n
reached c = not_below c.args.n c.times-t.result c.lt.ensures c.if-lt.false

pub overflow_add-k : goal.overflow_add-k
overflow_add-k c = omega (arith, few (goal.at.overflow_add-k c).At-loop-n)

pub loop-n-smaller : goal.loop-n-smaller
loop-n-smaller c =
    shrinks (val c.args.n) (val c.loop-n.x) (val c.times-t.result) c.times-t.ensures (reached (goal.at.loop-n-smaller c).Else-lt)
    (doubled_pos (val c.args.m) (c.loop-n.k - 1022) (val c.loop-n.x) c.requires.1 c.loop-n.invariant.2)

pub loop-n-preserved : goal.loop-n-preserved
loop-n-preserved c = (
  lt_of_le_of_lt (reached (goal.at.loop-n-preserved c).Else-lt) c.requires.0,
  omega (arith, c.loop-n.invariant.1),
  c.times-t.ensures ∙ doubled (val c.args.m) c.loop-n.k 1022 (val c.loop-n.x) c.loop-n.invariant.1 c.loop-n.invariant.2,
)

pub returns-then-lt : goal.returns-then-lt
returns-then-lt c = (
  c.loop-n.invariant.0,
  lt_of_lt_of_le (below c.args.n c.times-t.result c.lt.ensures c.if-lt.true) (le_of_eq c.times-t.ensures),
  c.loop-n.invariant.2,
  c.loop-n.invariant.1,
  omega (arith, few (goal.at.returns-then-lt c).At-loop-n),
)

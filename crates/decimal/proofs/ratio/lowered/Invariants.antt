-- `decimal::ratio::lowered` meets its contract: x is m * 2 ^ (k - 1022) at each turn. Assumes nothing.
use mathlib.Core.Path.{◌≡◌}
use Prim.Native.Nat.{◌-◌, ◌*◌, ◌^◌, ◌≤◌, ◌<◌}
use Rattle.decimal.specs.Wide.{val}
use Rattle.decimal.proofs.ratio.lowered.Given as goal

abbrev pub invariant-loop-n : goal.invariant-loop-n
invariant-loop-n l = (val l.x < 2 ^ 164) × (1022 ≤ l.k) × (val l.x ≡ val l.initial.x * 2 ^ (l.k - 1022))

abbrev pub decreases-loop-n : goal.decreases-loop-n
decreases-loop-n l = val l.n - val l.x

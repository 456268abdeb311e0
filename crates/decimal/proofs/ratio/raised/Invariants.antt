-- `decimal::ratio::raised` meets its contract: x times its power of two stays, and the doublings so far make x at least as many powers of two. Assumes nothing.
use mathlib.Core.Path.{◌≡◌}
use Prim.Native.Nat.{◌-◌, ◌*◌, ◌^◌, ◌≤◌, ◌<◌}
use Rattle.decimal.specs.Wide.{val}
use Rattle.decimal.proofs.ratio.raised.Given as goal

abbrev pub invariant-loop-low : goal.invariant-loop-low
invariant-loop-low l = (val l.x < val l.low.x * 2) × (val l.x * 2 ^ l.k ≡ val l.initial.x * 2 ^ l.low.k) × (l.k ≤ l.low.k) × (2 ^ (l.low.k - l.k) ≤ val l.x)

abbrev pub decreases-loop-low : goal.decreases-loop-low
decreases-loop-low l = l.k

-- `decimal::ratio::divided` meets its contract: after i turns the parts are the quotient and the rest of n * 2 ^ i, and n is m and the first rest. Assumes nothing.
use mathlib.Core.Path.{◌≡◌}
use Prim.Native.Nat.{◌+◌, ◌*◌, ◌^◌, ◌≤◌, ◌<◌}
use Rattle.decimal.specs.Wide.{val}
use Rattle.decimal.proofs.ratio.divided.Given as goal

abbrev pub invariant-loop : goal.invariant-loop
invariant-loop l =
    (l.parts.q * val l.m + val l.parts.r ≡ (val l.m + val l.initial.parts.r) * 2 ^ l.counter) × (val l.parts.r < val l.m) × (2 ^ l.counter ≤ l.parts.q) × (l.parts.q < 2 ^ l.counter * 2)

-- `decimal::ratio::ratio` meets its contract. Assumes nothing.
use Prim.Native.Nat.{ℕ, ◌+◌, ◌*◌, ◌^◌, ◌%◌, ◌≤◌}
use native.Mathlib.Omega.{arith}
use mathlib.Core.Bool.{not}
use lib.Dec.{T}
use lib.Ieee.{binary64, nan_bits}
use lib.Ieee.Bits.{nan_bits_above}
use borrow.Author.Tests.{le-ltb}
use Rattle.decimal.proofs.ratio.ratio.Goals.{then-negative, else-negative}
use Rattle.decimal.proofs.ratio.ratio.Goals as goal

-- no pattern of a NaN
number : (n : ℕ) → n % 2 ^ 63 ≤ 2047 * 2 ^ 52 → T (not (nan_bits binary64 n))
number n h = rw (nan_bits_above binary64 n, le-ltb (2047 * 2 ^ 52) (n % 2 ^ 63) h) tt

pub float_from_bits-result : goal.float_from_bits-result
float_from_bits-result c =
    let p = c.pattern.ensures.small in
    elim c.if-negative.branch [
      | then-negative w ↦ number (c.if-negative.sign + c.pattern.result) (omega (arith, p, w.sign-is))
      | else-negative w ↦ number (c.if-negative.sign + c.pattern.result) (omega (arith, p, w.sign-is))
    ]

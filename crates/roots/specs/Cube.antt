-- The cube root of a binary64 value, to the nearest, a tie to even. Definitions only.
use Rattle.std.specs.Prelude.{ℕ, zero, suc, ◌+◌, ◌*◌, ◌/◌, ◌^◌, true, false, pos, Float}
use Rattle.std.specs.Float.{nan, inf, fin}
use Rattle.std.specs.Float.Ieee.{up, down, size}
use Rattle.roots.specs.Power.{cube}
use Rattle.roots.specs.Root.{descend, rounded}

-- The whole part of n's cube root: the largest k with k * k * k ≤ n (`proofs/Whole.antt` proves that). A step is to the mean of b, b and n / b ^ 2.
unfoldable pub icbrt : ℕ → ℕ
unfolding descend size
icbrt n = let a = 2 ^ suc (size n / 3) in descend (λ (b : ℕ). (2 * b + n / (b * b)) / 3) (suc a) true a a

-- The cube root of n / 8 ^ 1075.
unfoldable pub cube_root_of : ℕ → Float
unfolding icbrt rounded
cube_root_of n = rounded cube n (icbrt n)

-- Of a number above zero. Of the rest, what Rust's `powf(1.0 / 3.0)` gives: +0 for a zero of either sign, +infinity for both infinities, and nan for a negative number and nan.
unfoldable pub cbrt_of : Float → Float
unfolding cube_root_of
cbrt_of nan = nan
cbrt_of (inf s) = inf false
cbrt_of (fin s zero e) = fin false 0 (pos 0)
cbrt_of (fin true (suc m) e) = nan
cbrt_of (fin false (suc m) e) = cube_root_of (suc m * up e * 8 ^ 1075 / down e)

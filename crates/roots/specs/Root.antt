-- The rounding of a root, and IEEE 754's square root of a binary64 value. Definitions only.
use Rattle.std.specs.Prelude.{ℕ, zero, suc, ◌+◌, ◌*◌, ◌/◌, ◌^◌, Bool, true, false, cond, ltb, eqb, Float}
use Rattle.std.specs.Float.{nan, inf, fin, binary64}
use Rattle.std.specs.Float.Ieee.{up, down, size, round}
use Rattle.roots.specs.Power.{square}

-- Newton's way to the whole part of a root: from an a at or above it, to b = step a, and on as long as that is less. d bounds the steps: a itself is enough. go says whether b
-- is less, as an argument to match on.
unfoldable pub descend : (ℕ → ℕ) → ℕ → Bool → ℕ → ℕ → ℕ
descend step zero go b a = a
descend step (suc d) false b a = a
descend step (suc d) true b a = let c = step b in descend step d (ltb c b) c b

-- The root of n in units of 2 ^ -1075, whose whole part is k, rounded to a binary64 value. Every such value, and every midpoint of two, is a whole number of units, and the root is
-- k of these and a rest, which is not zero where k's power is not n. So one more digit, 1 for a rest and 0 for none, makes a number that rounds as the root itself does.
unfoldable pub rounded : (ℕ → ℕ) → ℕ → ℕ → Float
unfolding round
rounded power n k = round binary64 false (2 * k + cond (eqb (power k) n) 0 1) (2 ^ 1076)

-- The whole part of n's square root: the largest k with k * k ≤ n (`proofs/Whole.antt` proves that). A step is to the mean of b and n / b.
unfoldable pub isqrt : ℕ → ℕ
unfolding descend size
isqrt n = let a = 2 ^ suc (size n / 2) in descend (λ (b : ℕ). (b + n / b) / 2) (suc a) true a a

-- The square root of n / 4 ^ 1075.
unfoldable pub root_of : ℕ → Float
unfolding isqrt rounded
root_of n = rounded square n (isqrt n)

-- Zeros and +infinity are their own roots, and no other number that is not above zero has one.
unfoldable pub sqrt_of : Float → Float
unfolding root_of
sqrt_of nan = nan
sqrt_of (inf false) = inf false
sqrt_of (inf true) = nan
sqrt_of (fin s zero e) = fin s zero e
sqrt_of (fin true (suc m) e) = nan
sqrt_of (fin false (suc m) e) = root_of (suc m * up e * 4 ^ 1075 / down e)

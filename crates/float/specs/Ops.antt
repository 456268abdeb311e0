-- f64 arithmetic (IEEE 754, binary64) under short names, one rounding per operation, and document 01's 'Arithmetic the platform leaves open'.
use Rattle.std.specs.Float.Ieee as Ieee
use Rattle.std.specs.Prelude.{◌≡◌, ℕ, zero, suc, ◌+◌, ◌-◌, ◌*◌, ◌/◌, ◌^◌, true, false, cond, ◌||◌, List, pos, is_nan, slice_index_or, Float, refl}
use Rattle.std.specs.Float.{nan, inf, fin, binary64}
use Rattle.std.specs.Float.Ieee.{up, down, neg, lt, round, of_bits}
use Rattle.float.specs.Constant.{decimal}

infixl 6 ◌⊕◌
abbrev pub ◌⊕◌ : Float → Float → Float
x ⊕ y = Ieee.add binary64 x y

infixl 6 ◌⊖◌
abbrev pub ◌⊖◌ : Float → Float → Float
x ⊖ y = Ieee.sub binary64 x y

infixl 7 ◌⊗◌
abbrev pub ◌⊗◌ : Float → Float → Float
x ⊗ y = Ieee.mul binary64 x y

infixl 7 ◌⊘◌
abbrev pub ◌⊘◌ : Float → Float → Float
x ⊘ y = Ieee.div binary64 x y

-- Rust's %
infixl 7 ◌⊛◌
abbrev pub ◌⊛◌ : Float → Float → Float
x ⊛ y = Ieee.rem binary64 x y

-- the f64 of a bit pattern; `bits 0` is +0.0
abbrev pub bits : ℕ → Float
bits n = Ieee.of_bits binary64 n

-- the f64 of a whole number
abbrev pub of_nat : ℕ → Float
of_nat n = Ieee.of_int binary64 (pos n)

-- the number at a place of a list, or NaN
abbrev pub at : List Float → ℕ → Float
at x k = slice_index_or x k nan

unfoldable pub one : Float
one = decimal 1 0

pub one_bits : bits 0x3ff0000000000000 ≡ one
unfolding one of_bits round
one_bits = refl

unfoldable pub two : Float
two = decimal 2 0

pub two_bits : bits 0x4000000000000000 ≡ two
unfolding two of_bits round
two_bits = refl

unfoldable pub half : Float
half = decimal 5 1

pub half_bits : bits 0x3fe0000000000000 ≡ half
unfolding half of_bits round
half_bits = refl

-- w if v is NaN or v < w, else v; and alike for the least
unfoldable pub max_of : Float → Float → Float
max_of v w = cond (is_nan v || lt v w) w v

unfoldable pub min_of : Float → Float → Float
min_of v w = cond (is_nan v || lt w v) w v

-- |v|: the sign made positive, that of a zero too (IEEE 754's abs)
unfoldable pub abs_of : Float → Float
abs_of nan = nan
abs_of (inf s) = inf false
abs_of (fin s m e) = fin false m e

-- ±1 by the sign, NaN for NaN
unfoldable pub signum_of : Float → Float
signum_of nan = nan
signum_of (inf s) = cond s (neg one) one
signum_of (fin s m e) = cond s (neg one) one

-- v % d, with d added to a negative remainder
unfoldable pub rem_euclid_of : Float → Float → Float
rem_euclid_of v d = cond (lt (v ⊛ d) (bits 0)) (v ⊛ d ⊕ d) (v ⊛ d)

unfoldable pub degrees_per_radian : Float
degrees_per_radian = decimal 5729577951308232 14

pub degrees_per_radian_bits : bits 0x404ca5dc1a63c1f8 ≡ degrees_per_radian
unfolding degrees_per_radian of_bits round
degrees_per_radian_bits = refl

unfoldable pub radians_per_degree : Float
radians_per_degree = decimal 17453292519943295 18

pub radians_per_degree_bits : bits 0x3f91df46a2529d39 ≡ radians_per_degree
unfolding radians_per_degree of_bits round
radians_per_degree_bits = refl

unfoldable pub degrees_of : Float → Float
degrees_of v = v ⊗ degrees_per_radian

unfoldable pub radians_of : Float → Float
radians_of v = v ⊗ radians_per_degree

-- the greatest whole number at most v, the sign kept
unfoldable pub floor_of : Float → Float
floor_of nan = nan
floor_of (inf s) = inf s
floor_of (fin false m e) = round binary64 false (m * up e / down e) 1
floor_of (fin true m e) = round binary64 true ((m * up e + (down e - 1)) / down e) 1

-- |x| rounded to a whole number, halves up; 0 where x is not finite
unfoldable pub whole_of : Float → ℕ
whole_of nan = 0
whole_of (inf s) = 0
whole_of (fin s m e) = (2 * (m * up e) + down e) / (2 * down e)

-- the same with x's sign: halves away from zero
unfoldable pub round_of : Float → Float
round_of nan = nan
round_of (inf s) = inf s
round_of (fin s m e) = round binary64 s (whole_of (fin s m e)) 1

-- acc×v×v×.., k factors v; a power is a repeated product, from 1.0 on
unfoldable pub raised : Float → ℕ → Float → Float
raised v zero acc = acc
raised v (suc k) acc = raised v k (acc ⊗ v)

unfoldable pub power_of : Float → ℕ → Float
power_of v k = raised v k one

-- f64::MAX, (2^53 − 1)×2^971
unfoldable pub largest : Float
largest = fin false (2 ^ 53 - 1) (pos 971)

pub largest_bits : bits 0x7fefffffffffffff ≡ largest
unfolding largest of_bits
largest_bits = refl

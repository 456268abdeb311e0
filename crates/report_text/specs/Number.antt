-- A float as the report prints it: to six places, halves away from zero, by one product and one rounding.
use Rattle.std.specs.Prelude.{ℕ, ◌+◌, ◌/◌, ◌≡◌, refl, cond, List, [], ◌∷◌, ◌++◌, eqb, Float}
use Rattle.std.specs.Float.Ieee.{is_nan, lt, of_bits, round, to_unsigned}
use Rattle.text.specs.Text.{bytes}
use Rattle.float.specs.Constant.{decimal}
use Rattle.float.specs.Ops.{◌⊗◌, bits, abs_of, round_of}
use Rattle.moment.specs.Time.{million}
use Rattle.decimal.specs.Fixed.{digit_at}
use Rattle.append.specs.Append.{numeral}

unfoldable pub largest_shown : Float
largest_shown = decimal 1000000000000 0

pub largest_shown_bits : bits 0x426d1a94a2000000 ≡ largest_shown
unfolding largest_shown of_bits round
largest_shown_bits = refl

-- |v| in millionths, to the nearest whole number
unfoldable pub millionths_of : Float → ℕ
millionths_of v = to_unsigned 64 (round_of (abs_of v ⊗ million))

unfoldable pub three_of : ℕ → ℕ → List ℕ
three_of n i = digit_at n (i + 2) ∷ digit_at n (i + 1) ∷ digit_at n i ∷ []

-- the last six digits
unfoldable pub six_of : ℕ → List ℕ
six_of n = three_of n 3 ++ three_of n 0

-- a zero has no minus
unfoldable pub minus_text : Float → ℕ → List ℕ
minus_text v n = cond (eqb n 0) [] (cond (lt v (bits 0)) (bytes "-") [])

unfoldable pub size_text : ℕ → List ℕ
size_text n = numeral (n / 1000000) ++ (bytes "." ++ six_of n)

unfoldable pub rounded_of : Float → List ℕ
rounded_of v = minus_text v (millionths_of v) ++ size_text (millionths_of v)

unfoldable pub real_of : Float → List ℕ
real_of v = cond (is_nan v) (bytes "not a number") (cond (lt largest_shown (abs_of v)) (bytes "over 1e12 in size") (rounded_of v))

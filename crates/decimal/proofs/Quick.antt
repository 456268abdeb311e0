-- A bit pattern in words: p moves the whole part of d / b up to 53 digits, and what is left of d as far. Assumes nothing.
use mathlib.Core.Path.{◌≡◌, refl, sym, ap, ◌∙◌}
use mathlib.Core.Logic.{inl, inr}
use mathlib.Core.Bool.{true}
use Prim.Native.Nat.{ℕ, suc, ◌+◌, ◌-◌, ◌*◌, ◌/◌, ◌%◌, ◌^◌, ◌≤◌, ◌<◌, compare}
use native.Mathlib.Nat.{le_trans, le_of_eq, lt_of_lt_of_le, lt_of_le_of_lt, mod-lt, div-add-mod', div-le_self, add-mul, add_assoc, mul-one, mul_assoc, mul_comm, mul_left_comm, mul_right_comm, mul-le-mul_right, mul-lt-mul_of_pos_right, le-div_iff_mul-le, div-lt_iff_lt-mul, eq-zero-or-pos}
use native.Mathlib.Omega.{arith}
use lib.Count.{count_leading_zeros, leading_of_zero, leading_top, leading_length}
use lib.Pow.{pow-add, pow_pos, pow_mono, shl_lt}
use lib.Ieee.{binary64, round, nearest}
use lib.Ieee.Nearest.{closest}
use lib.Ieee.Scale.{round_same}
use Rattle.decimal.specs.Ratio.{Pattern}
use Rattle.decimal.proofs.Round.{closest_at, ten_pos}
use Rattle.decimal.proofs.Near.{round_bits, closest_le}

-- ---- d * p / b, by the whole part of d / b and the rest
module _ (d b p : ℕ) (B : 0 < b) where
  parts : d * p ≡ (d / b * p + d % b * p / b) * b + d % b * p % b
  parts =
      ap (λ (x : ℕ). x * p) (sym (div-add-mod' d b))
      ∙ add-mul (d / b * b) (d % b) p
      ∙ ap (λ (x : ℕ). x + d % b * p) (mul_right_comm (d / b) b p)
      ∙ ap (λ (x : ℕ). d / b * p * b + x) (sym (div-add-mod' (d % b * p) b))
      ∙ sym (add_assoc (d / b * p * b) (d % b * p / b * b) (d % b * p % b))
      ∙ ap (λ (x : ℕ). x + d % b * p % b) (sym (add-mul (d / b * p) (d % b * p / b) b))

  pub by_parts : closest (d * p) b ≡ nearest (d / b * p + d % b * p / b) (compare (d % b * p % b * 2) b)
  by_parts = ap (λ (x : ℕ). closest x b) parts ∙ closest_at (d / b * p + d % b * p / b) b (d % b * p % b) (mod-lt (d % b * p) B)

-- ---- how far p moves
regroup : (c b x y w : ℕ) → c * b * (x * (y * w)) ≡ c * x * y * b * w
regroup c b x y w = simp (mul_assoc, mul_comm, mul_left_comm)

-- d with as many places as its word has room for
pub raised_fits : (d r : ℕ) → d < 2 ^ 64 → r ≤ count_leading_zeros 64 d → d * 2 ^ r < 2 ^ 64
raised_fits d r h l =
    let t = leading_length 64 d h in
    let e = t.1 in
    lt_of_lt_of_le (shl_lt t.0 r t.2) (pow_mono {i = t.0 + r} {j = 64} (omega arith))

module _ (d b z : ℕ) (D : d < 2 ^ 64) (B : 0 < b) (e : z ≡ count_leading_zeros 64 (d / b)) (lo : 11 ≤ z) (hi : z ≤ 63) where
  some_whole : 0 < d / b
  some_whole =
      elim (eq-zero-or-pos (d / b)) [
        | inl n ↦ let f : z ≡ 64 = e ∙ ap (count_leading_zeros 64) n ∙ leading_of_zero 64 in absurd (omega arith)
        | inr h ↦ h
      ]

  top : (j : ℕ) × (count_leading_zeros 64 (d / b) + suc j ≡ 64) × (2 ^ j ≤ d / b) × (d / b < 2 ^ suc j)
  top = leading_top 64 (d / b) some_whole (lt_of_le_of_lt (div-le_self d b) D)

  -- the place of the highest digit
  place : top.0 + (z - 11) ≡ 52
  place = let t = top.1 in omega arith

  pub reach : 2 ^ 52 ≤ d / b * 2 ^ (z - 11)
  reach = le_trans (le_of_eq (ap (λ (x : ℕ). 2 ^ x) (sym place) ∙ pow-add 2 top.0 (z - 11))) (mul-le-mul_right (2 ^ (z - 11)) top.2)

  pub under : suc (d / b) * 2 ^ (z - 11) ≤ 2 ^ 53
  under = le_trans (mul-le-mul_right (2 ^ (z - 11)) top.3) (le_of_eq (sym (pow-add 2 (suc top.0) (z - 11)) ∙ ap (λ (x : ℕ). 2 ^ x) one_more))
    where
      one_more : suc top.0 + (z - 11) ≡ 53
      one_more = let t = place in omega arith

  pub under_whole : d / b * 2 ^ (z - 11) < 2 ^ 53
  under_whole = lt_of_lt_of_le (mul-lt-mul_of_pos_right {m = d / b} {n = suc (d / b)} (omega arith) (pow_pos (z - 11))) under

  low : 2 ^ 52 * b ≤ d * 2 ^ (z - 11)
  low = le_trans (mul-le-mul_right b reach) (le_trans (le_of_eq (mul_right_comm (d / b) (2 ^ (z - 11)) b)) (mul-le-mul_right (2 ^ (z - 11)) ((le-div_iff_mul-le {x = d / b} {y = d} B).0 (le_of_eq refl))))

  high : d * 2 ^ (z - 11) < 2 ^ 53 * b
  high =
      lt_of_lt_of_le (mul-lt-mul_of_pos_right ((div-lt_iff_lt-mul {x = d} {y = suc (d / b)} B).0 (omega arith)) (pow_pos (z - 11)))
      (le_trans (le_of_eq (mul_right_comm (suc (d / b)) b (2 ^ (z - 11)))) (mul-le-mul_right b under))

  module _ (c j : ℕ) (up : d ≡ c * 2 ^ j) (most : j ≤ 53) where
    value : c * b * 2 ^ 1074 ≡ d * 2 ^ (z - 11) * b * 2 ^ (1074 - j - (z - 11))
    value =
        ap (λ (x : ℕ). c * b * x) (ap (λ (x : ℕ). 2 ^ x) back ∙ pow-add 2 j (z - 11 + (1074 - j - (z - 11))) ∙ ap (λ (x : ℕ). 2 ^ j * x) (pow-add 2 (z - 11) (1074 - j - (z - 11))))
        ∙ regroup c b (2 ^ j) (2 ^ (z - 11)) (2 ^ (1074 - j - (z - 11)))
        ∙ ap (λ (x : ℕ). x * 2 ^ (z - 11) * b * 2 ^ (1074 - j - (z - 11))) (sym up)
      where
        back : 1074 ≡ j + (z - 11 + (1074 - j - (z - 11)))
        back = omega arith

    few : 1074 - j - (z - 11) ≤ 1400
    few = omega arith

    pub made : (down : ℕ) → b ≡ 10 ^ down → Pattern c 0 down ((1074 - j - (z - 11)) * 2 ^ 52 + closest (d * 2 ^ (z - 11)) b)
    made down f =
        let l = closest_le true c b (d * 2 ^ (z - 11)) b (1074 - j - (z - 11)) B B low high value few in
        record {
          small = omega (arith, few, l);
          is = λ s. (λ i. round binary64 s (one_times i) (sym f i)) ∙ round_bits s c b (d * 2 ^ (z - 11)) b (1074 - j - (z - 11)) B B low high value few;
        }
      where
        one_times : c * 10 ^ 0 ≡ c
        one_times = mul-one c

-- zeros that `up` brings and `down` takes
pub lifted : (d up down r : ℕ) → up ≤ down → Pattern d 0 (down - up) r → Pattern d up down r
lifted d up down r h p = record { small = p.small; is = λ s. round_same binary64 s (d * 10 ^ up) (10 ^ down) (d * 10 ^ 0) (10 ^ (down - up)) (ten_pos down) (ten_pos (down - up)) cross ∙ p.is s }
  where
    cross : d * 10 ^ up * 10 ^ (down - up) ≡ d * 10 ^ 0 * 10 ^ down
    cross =
        let e : up + (down - up) ≡ down = omega arith in
        mul_assoc d (10 ^ up) (10 ^ (down - up)) ∙ ap (λ (x : ℕ). d * x) (sym (pow-add 10 up (down - up)) ∙ ap (λ (x : ℕ). 10 ^ x) e) ∙ ap (λ (x : ℕ). x * 10 ^ down) (sym (mul-one d))

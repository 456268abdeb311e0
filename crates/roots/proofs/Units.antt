-- The value of a bit pattern in units, and its two parts. Assumes nothing.
use mathlib.Core.Path.{◌≡◌, refl, sym, ap, ◌∙◌, subst}
use Prim.Native.Nat.{ℕ, zero, suc, ◌+◌, ◌-◌, ◌*◌, ◌/◌, ◌%◌, ◌^◌, ◌≤◌, ◌<◌}
use native.Mathlib.Nat.{le_trans, le_of_eq, lt_trans, lt_of_not-le, not-le_of_lt, mul_assoc, mul_comm, mul-le-mul_right}
use native.Mathlib.Omega.{arith}
use mathlib.Core.Bool.{Bool, cond}
use lib.Dec.{eqb, eqb-suc-zero, lit<}
use lib.Count.{count_leading_zeros, leading_top}
use lib.Pow.{pow-add, pow_mono, shl_exact, shl_lt}
use Rattle.roots.specs.Parts.{pattern_units, IsParts}

-- ---- by the exponent's field
pub small : (b : ℕ) → b < 4503599627370496 → b / 4503599627370496 ≡ 0
small b h = omega arith

pub low_units : (b : ℕ) → b < 4503599627370496 → pattern_units b ≡ b
unfolding pattern_units
low_units b h = ap (λ (k : ℕ). cond (eqb k 0) b ((b % 4503599627370496 + 4503599627370496) * 2 ^ (k - 1))) (small b h)

pub high_units : (b k : ℕ) → b / 4503599627370496 ≡ suc k → pattern_units b ≡ (b % 4503599627370496 + 4503599627370496) * 2 ^ k
unfolding pattern_units
high_units b k e = ap (λ (j : ℕ). cond (eqb j 0) b ((b % 4503599627370496 + 4503599627370496) * 2 ^ (j - 1))) e ∙ ap (λ (t : Bool). cond t b ((b % 4503599627370496 + 4503599627370496) * 2 ^ (suc k - 1))) (eqb-suc-zero k) ∙ ap (λ (j : ℕ). (b % 4503599627370496 + 4503599627370496) * 2 ^ j) (back k)
  where
    back : (k : ℕ) → suc k - 1 ≡ k
    back k = omega arith

-- ---- a normal number
pub normal_parts : (b : ℕ) → b < 0x7ff0000000000000 → (b / 4503599627370496 ≡ 0 → ⊥) → IsParts b (b % 4503599627370496 + 4503599627370496) (b / 4503599627370496 + 51)
normal_parts b h n = go (b / 4503599627370496) refl n (field b h)
  where
    field : (b : ℕ) → b < 0x7ff0000000000000 → b / 4503599627370496 < 2047
    field b h = omega arith

    sum : (k : ℕ) → suc k + 51 ≡ k + 52
    sum k = omega arith

    go : (k : ℕ) → b / 4503599627370496 ≡ k → (k ≡ 0 → ⊥) → k < 2047 → IsParts b (b % 4503599627370496 + 4503599627370496) (k + 51)
    go zero e n l = absurd (n refl)
    go (suc k) e n l =
        let m = b % 4503599627370496 + 4503599627370496 in
        record {
          least = omega arith;
          most = omega arith;
          small = omega arith;
          is = ap (λ (z : ℕ). m * 2 ^ z) (sum k) ∙ ap (λ (z : ℕ). m * z) (pow-add 2 k 52) ∙ sym (mul_assoc m (2 ^ k) (2 ^ 52)) ∙ ap (λ (z : ℕ). z * 2 ^ 52) (sym (high_units b k e));
        }

-- ---- a subnormal number, shifted to 53 digits
pub subnormal_digits : (b : ℕ) → 0 < b → b < 4503599627370496 → (j : ℕ) × (count_leading_zeros 64 b + suc j ≡ 64) × (2 ^ j ≤ b) × (b < 2 ^ suc j) × (j < 52)
subnormal_digits b p h = let t = leading_top 64 b p (lt_trans h (lit< tt)) in (t.0, t.1, t.2, t.3, lt_of_not-le (λ (k : 52 ≤ t.0). not-le_of_lt h (le_trans (pow_mono k) t.2)))

pub subnormal_parts : (b z : ℕ) → 0 < b → b < 4503599627370496 → z ≡ count_leading_zeros 64 b - 11 → IsParts b (b * 2 ^ z % 2 ^ 64) (52 - z)
subnormal_parts b z p h e = let t = subnormal_digits b p h in go t.0 (omega (arith, t.1, t.4)) t.2 t.3
  where
    go : (j : ℕ) → z + j ≡ 52 → 2 ^ j ≤ b → b < 2 ^ suc j → IsParts b (b * 2 ^ z % 2 ^ 64) (52 - z)
    go j e lo hi =
        let exact : b * 2 ^ z % 2 ^ 64 ≡ b * 2 ^ z = shl_exact (suc j) z 64 hi (omega arith) in
        let back : 52 - z ≡ j = omega arith in
        let full : 2 ^ z * 2 ^ j ≡ 2 ^ 52 = sym (pow-add 2 z j) ∙ ap (λ (k : ℕ). 2 ^ k) e in
        let sum : suc j + z ≡ 53 = omega arith in
        rw (exact, back) (record {
          least = le_trans (le_of_eq (sym full ∙ mul_comm (2 ^ z) (2 ^ j))) (mul-le-mul_right (2 ^ z) lo);
          most = subst (λ (k : ℕ). b * 2 ^ z < 2 ^ k) sum (shl_lt (suc j) z hi);
          small = omega arith;
          is = mul_assoc b (2 ^ z) (2 ^ j) ∙ ap (λ (y : ℕ). b * y) full ∙ ap (λ (y : ℕ). y * 2 ^ 52) (sym (low_units b h));
        })

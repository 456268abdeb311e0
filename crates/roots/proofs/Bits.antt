-- The bit patterns of a number and of its root. Assumes nothing.
use mathlib.Core.Path.{◌≡◌, refl, sym, ap, ◌∙◌, subst}
use mathlib.Core.Logic.{inl, inr}
use Prim.Native.Nat.{ℕ, zero, suc, ◌+◌, ◌-◌, ◌*◌, ◌/◌, ◌%◌, ◌^◌, ◌≤◌, ◌<◌}
use native.Mathlib.Nat.{le_trans, le_of_eq, le_antisymm, lt_of_lt_of_le, lt_of_le_of_lt, lt_trans, lt_irrefl, eq-or-lt_of_le, mul-le-mul_left, mul-le-mul_right, mul-lt-mul_of_pos_left, mul-lt-mul_of_pos_right, mul_assoc, mul-one, mul-div_cancel, pow-succ', zero-add, mod-le, le_of_lt}
use native.Mathlib.Omega.{arith}
use mathlib.Core.Bool.{Bool, true, false, not, true≢false, false≢true}
use lib.IntN.{ℤ}
use lib.Dec.{T, eqb, lit≤, lit<}
use lib.Arith.{le→nltb}
use lib.Pow.{pow-add, pow_pos, pow_mono, shl_lt, shl_exact}
use lib.Ieee.{Float, nan, inf, fin, binary64, up, down, size, fits, is_nan, nan_bits, lt, of_bits, to_bits}
use lib.Ieee.Digits.{size-le}
use lib.Ieee.Fits.{round-fits, down_pos}
use lib.Ieee.Bits.{of_bits-to_bits, nan_bits_above}
use lib.Ieee.Scale.{overflow}
use lib.Ieee.Exact.{HasValue}
use Rattle.roots.specs.Power.{square, cube}
use Rattle.roots.specs.Root.{rounded, isqrt, root_of}
use Rattle.roots.specs.Cube.{icbrt, cube_root_of}
use Rattle.roots.specs.Nearest.{Nearest}
use Rattle.roots.proofs.Power.{Power, order, two_pos, square_power, cube_power}
use Rattle.roots.proofs.Whole.{Whole, isqrt_whole, icbrt_whole}
use Rattle.roots.proofs.Rounds.{sticky, size_least, less}
use Rattle.roots.proofs.Value.{root_value}

-- ---- what is no NaN
pub no_nan : (n : ℕ) → n < 0x7ff0000000000000 → T (not (nan_bits binary64 n))
no_nan n h = subst (λ (b : Bool). T (not b)) (sym (nan_bits_above binary64 n)) (le→nltb 0x7ff0000000000000 (n % 0x8000000000000000) (le_trans (mod-le n 0x8000000000000000) (le_of_lt h)))

pub lt_no_nan : (x y : Float) → lt x y ≡ true → T (not (is_nan y))
unfolding lt is_nan
lt_no_nan nan nan h = false≢true h
lt_no_nan (inf s) nan h = false≢true h
lt_no_nan (fin s m e) nan h = false≢true h
lt_no_nan x (inf t) h = tt
lt_no_nan x (fin t n d) h = tt

-- ---- the pattern of q * 2 ^ j units, for a q of 53 binary digits
size_is : (q j : ℕ) → 2 ^ 52 ≤ q → q < 2 ^ 53 → size (q * 2 ^ j) ≡ 53 + j
size_is q j lo hi = le_antisymm
    (size-le (q * 2 ^ j) (53 + j) (shl_lt 53 j hi))
    (size_least (q * 2 ^ j) j (le_trans (le_of_eq (pow-add 2 52 j)) (mul-le-mul_right (2 ^ j) lo)))

to_bits_fin : (m : ℕ) (e : ℤ) (n : ℕ) → m * up e * 2 ^ 1074 / down e ≡ n → to_bits binary64 (fin false m e) ≡ 0 + (size n - 53) * 2 ^ 52 + n / 2 ^ (size n - 53)
unfolding to_bits
to_bits_fin m e n p = ap (λ (x : ℕ). 0 + (size x - 53) * 2 ^ 52 + x / 2 ^ (size x - 53)) p

to_bits_value : (x : Float) (q j : ℕ) → HasValue x false (q * 2 ^ j) (2 ^ 1074) → 2 ^ 52 ≤ q → q < 2 ^ 53 → to_bits binary64 x ≡ j * 2 ^ 52 + q
to_bits_value nan q j v lo hi = absurd v
to_bits_value (inf s) q j v lo hi = absurd v
to_bits_value (fin true m e) q j v lo hi = absurd (true≢false v.0)
to_bits_value (fin false m e) q j v lo hi =
    to_bits_fin m e (q * 2 ^ j) (ap (λ (z : ℕ). z / down e) v.1 ∙ mul-div_cancel (q * 2 ^ j) (down_pos e))
    ∙ ap (λ (k : ℕ). 0 + k * 2 ^ 52 + q * 2 ^ j / 2 ^ k) (ap (λ (z : ℕ). z - 53) (size_is q j lo hi) ∙ less j)
    ∙ ap (λ (z : ℕ). 0 + j * 2 ^ 52 + z) (mul-div_cancel q (pow_pos j))
    ∙ ap (λ (z : ℕ). z + q) (zero-add (j * 2 ^ 52))

-- the same with q up to 2 ^ 53, where the sum of the fields carries
carried : (x : Float) (q j : ℕ) → HasValue x false (q * 2 ^ j) (2 ^ 1074) → 2 ^ 52 ≤ q → q ≤ 2 ^ 53 → to_bits binary64 x ≡ j * 2 ^ 52 + q
carried x q j v lo hi = elim (eq-or-lt_of_le hi) [
  | inl e ↦ to_bits_value x (2 ^ 52) (suc j) (subst (λ (a : ℕ). HasValue x false a (2 ^ 1074)) (ap (λ (z : ℕ). z * 2 ^ j) e ∙ twice) v) (lit≤ tt) (lit< tt) ∙ fields j ∙ ap (λ (z : ℕ). j * 2 ^ 52 + z) (sym e)
  | inr l ↦ to_bits_value x q j v lo l
]
  where
    twice : 2 ^ 53 * 2 ^ j ≡ 2 ^ 52 * 2 ^ suc j
    twice = mul_assoc (2 ^ 52) 2 (2 ^ j) ∙ ap (λ (z : ℕ). 2 ^ 52 * z) (sym (pow-succ' 2 j))

    fields : (j : ℕ) → suc j * 2 ^ 52 + 2 ^ 52 ≡ j * 2 ^ 52 + 2 ^ 53
    fields j = omega arith

-- ---- the root's pattern
rounded_fits : (f : ℕ → ℕ) (n k : ℕ) → T (fits binary64 (rounded f n k))
unfolding rounded
rounded_fits f n k = round-fits binary64 false (sticky k (eqb (f k) n)) (2 ^ 1076)

-- q has 53 binary digits, or is 2 ^ 53
module _ (f : ℕ → ℕ) {D : ℕ} (P : Power f D) (N q : ℕ) (H : Nearest f N q) (lo : f (2 ^ 52) ≤ N) (hi : N < f (2 ^ 53)) where
  pub q_least : 4503599627370496 ≤ q
  q_least = half q (order f P (2 * 2 ^ 52) (2 * q + 1) (lt_of_le_of_lt (le_of_eq (P.mul 2 (2 ^ 52))) (lt_of_le_of_lt (mul-le-mul_left (f 2) lo) H.above)))
    where
      half : (q : ℕ) → 2 * 2 ^ 52 < 2 * q + 1 → 4503599627370496 ≤ q
      half q h = omega arith

  q_most : q ≤ 9007199254740992
  q_most = half q (order f P (2 * q - 1) (2 * 2 ^ 53) (lt_trans H.below (lt_of_lt_of_le (mul-lt-mul_of_pos_left hi (two_pos f P 1)) (le_of_eq (sym (P.mul 2 (2 ^ 53)))))))
    where
      half : (q : ℕ) → 2 * q - 1 < 2 * 2 ^ 53 → q ≤ 9007199254740992
      half q h = omega arith

  root_in_range : (j : ℕ) → j < 1534 → q * 2 ^ j < overflow binary64
  root_in_range j small = lt_of_lt_of_le (shl_lt 54 j (lt_of_le_of_lt q_most (lit< tt))) (pow_mono (room j small))
    where
      room : (j : ℕ) → j < 1534 → 54 + j ≤ 2098
      room j h = omega arith

  pub rounded_value : (n j k : ℕ) → n ≡ N * f (2 * 2 ^ j) → j < 1534 → Whole f n k → HasValue (rounded f n k) false (q * 2 ^ j) (2 ^ 1074)
  rounded_value n j k e small W =
      subst (λ (y : ℕ). HasValue (rounded f y k) false (q * 2 ^ j) (2 ^ 1074)) (sym e) (go q H.some H (root_in_range j small) (subst (λ (y : ℕ). Whole f y k) e W))
    where
      go : (q : ℕ) → 0 < q → Nearest f N q → q * 2 ^ j < overflow binary64 → Whole f (N * f (2 * 2 ^ j)) k → HasValue (rounded f (N * f (2 * 2 ^ j)) k) false (q * 2 ^ j) (2 ^ 1074)
      go zero s H fine W = absurd (lt_irrefl 0 s)
      go (suc p) s H fine W = root_value f P N p j k H lo hi W fine

  rounded_bits : (n j k : ℕ) → N * f (2 * 2 ^ j) ≡ n → j < 1534 → Whole f n k → (of_bits binary64 (j * 4503599627370496 + q) ≡ rounded f n k) × (j * 4503599627370496 + q < 0x7ff0000000000000)
  rounded_bits n j k e small W =
      let x = rounded f n k in
      (ap (of_bits binary64) (sym (carried x q j (rounded_value n j k (sym e) small W) q_least q_most)) ∙ of_bits-to_bits binary64 x (rounded_fits f n k), below j q small q_most)
    where
      below : (j q : ℕ) → j < 1534 → q ≤ 9007199254740992 → j * 4503599627370496 + q < 0x7ff0000000000000
      below j q h k = omega arith

-- n is m * 2 ^ r
scaled : (f : ℕ → ℕ) {D : ℕ} (P : Power f D) (m n r c j : ℕ) → n ≡ m * 2 ^ r → n * 2 ^ c * f (2 * 2 ^ j) ≡ m * 2 ^ (r + c + D * suc j)
scaled f {D} P m n r c j e =
    ap (λ (z : ℕ). z * 2 ^ c * f (2 * 2 ^ j)) e ∙ ap (λ (z : ℕ). m * 2 ^ r * 2 ^ c * z) (ap f (sym (pow-succ' 2 j)) ∙ P.two (suc j)) ∙ flat (2 ^ r) (2 ^ c) (2 ^ (D * suc j))
    ∙ ap (λ (z : ℕ). m * z) (sym (pow-add 2 (r + c) (D * suc j) ∙ ap (λ (z : ℕ). z * 2 ^ (D * suc j)) (pow-add 2 r c)))
  where
    flat : (x y z : ℕ) → m * x * y * z ≡ m * (x * y * z)
    flat x y z = omega arith

pub root_of_is : (n : ℕ) → rounded square n (isqrt n) ≡ root_of n
unfolding root_of
root_of_is n = refl

pub cube_root_of_is : (n : ℕ) → rounded cube n (icbrt n) ≡ cube_root_of n
unfolding cube_root_of
cube_root_of_is n = refl

-- m of 53 binary digits with r more, k in all at most
pub record Shifted (m r k : ℕ) : Type 0 where
  pub exact : m * 2 ^ r % 2 ^ 64 ≡ m * 2 ^ r
  pub least : 4503599627370496 ≤ m * 2 ^ r
  pub most : m * 2 ^ r < 2 ^ k

pub shifted : (m r k : ℕ) → 4503599627370496 ≤ m → m < 9007199254740992 → 53 + r ≤ k → k ≤ 64 → Shifted m r k
shifted m r k lo hi l e = record {
  exact = shl_exact 53 r 64 hi (le_trans l e);
  least = le_trans lo (le_trans (le_of_eq (sym (mul-one m))) (mul-le-mul_left m (pow_pos r)));
  most = lt_of_lt_of_le (shl_lt 53 r hi) (pow_mono l);
}

pub square_bits : (m g n q r : ℕ) → n ≡ m * 2 ^ r → g % 2 ≡ r → 4503599627370496 ≤ n → n < 18014398509481984 → g < 3068 → Nearest square (n * 2 ^ 52) q
    → (of_bits binary64 (g / 2 * 4503599627370496 + q) ≡ root_of (m * 2 ^ (g + 54))) × (g / 2 * 4503599627370496 + q < 0x7ff0000000000000)
square_bits m g n q r s e a b c H =
    let j = g / 2 in
    let t = m * 2 ^ (g + 54) in
    let w = rounded_bits square square_power (n * 2 ^ 52) q H (mul-le-mul_right (2 ^ 52) a) (mul-lt-mul_of_pos_right b (pow_pos 52)) t j (isqrt t) (scaled square square_power m n r 52 j s ∙ ap (λ (z : ℕ). m * 2 ^ z) (whole g r e)) (half g c) (isqrt_whole t) in
    (w.0 ∙ root_of_is t, w.1)
  where
    half : (g : ℕ) → g < 3068 → g / 2 < 1534
    half g h = omega arith

    whole : (g r : ℕ) → g % 2 ≡ r → r + 52 + 2 * suc (g / 2) ≡ g + 54
    whole g r h = omega arith

pub cube_bits : (m g n q r : ℕ) → n ≡ m * 2 ^ r → g % 3 ≡ r → 4503599627370496 ≤ n → n < 36028797018963968 → g < 4090 → Nearest cube (n * 2 ^ 104) q
    → (of_bits binary64 (g / 3 * 4503599627370496 + q) ≡ cube_root_of (m * 2 ^ (g + 107))) × (g / 3 * 4503599627370496 + q < 0x7ff0000000000000)
cube_bits m g n q r s e a b c H =
    let j = g / 3 in
    let t = m * 2 ^ (g + 107) in
    let w = rounded_bits cube cube_power (n * 2 ^ 104) q H (mul-le-mul_right (2 ^ 104) a) (mul-lt-mul_of_pos_right b (pow_pos 104)) t j (icbrt t) (scaled cube cube_power m n r 104 j s ∙ ap (λ (z : ℕ). m * 2 ^ z) (whole g r e)) (third g c) (icbrt_whole t) in
    (w.0 ∙ cube_root_of_is t, w.1)
  where
    third : (g : ℕ) → g < 4090 → g / 3 < 1534
    third g h = omega arith

    whole : (g r : ℕ) → g % 3 ≡ r → r + 104 + 3 * suc (g / 3) ≡ g + 107
    whole g r h = omega arith

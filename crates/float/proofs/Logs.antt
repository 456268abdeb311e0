-- What the tests of `ln` say. Assumes nothing.
use Rattle.std.proofs.Common.{◌≡◌, ℕ, zero, suc, ◌+◌, ◌*◌, ◌/◌, ◌%◌, ◌^◌, ◌<◌, ◌≤◌, Bool, true, false, not, T, ℤ, sym, refl, ap, ◌∙◌, subst, true≢false, le_trans, le_of_eq, lt_of_lt_of_le, lt_of_le_of_lt, lt_irrefl, mul-le-mul_right, zero-lt-suc, mul_assoc, mul_comm, mul-le-mul_left, mul-pos, one-mul, mul-one, mul_right_comm, le_of_mul-le-mul_right, arith, lit≤, pow_mono, pow-add, ltb-false, ltb-true, le-ltb}
use lib.IntN.{sub_ℕ}
use lib.Ieee.{Float, nan, inf, fin, binary64, up, down, lt, eq, is_nan, mul, of_bits, to_bits, fits, of_int}
use lib.Ieee.Fits.{up_pos, down_pos, mul-fits}
use lib.Ieee.Exact.{HasValue}
use Rattle.float.specs.Ops.{bits, ◌⊗◌}
use Rattle.float.specs.Log.{log_of, ln_of}
use Rattle.float.proofs.Own.{held, scaled}
use Rattle.float.proofs.Signs.{none, zero_is}
use Rattle.float.proofs.Binade.{log_fields}

-- infinity, the smallest normal number, and 2^54, as the code has them
abbrev infinity : Float
infinity = bits 0x7ff0000000000000

abbrev tiny : Float
tiny = bits 0x0010000000000000

abbrev scale : Float
scale = bits 0x4350000000000000

pub ln_nan : (v : Float) → is_nan v ≡ true → v ≡ ln_of v
unfolding is_nan ln_of
ln_nan nan h = refl
ln_nan (inf s) h = absurd (true≢false (sym h))
ln_nan (fin s m e) h = absurd (true≢false (sym h))

pub ln_below : (v : Float) → lt v (bits 0) ≡ true → nan ≡ ln_of v
unfolding lt of_bits ln_of
ln_below nan h = refl
ln_below (inf true) h = refl
ln_below (inf false) h = absurd (true≢false (sym h))
ln_below (fin true zero e) h = absurd (true≢false (sym h ∙ le-ltb 0 (0 * up e * 1 + 0 * down e) (omega arith)))
ln_below (fin true (suc n) e) h = refl
ln_below (fin false m e) h = absurd (true≢false (sym h ∙ le-ltb (m * up e * 1) (0 * down e) (omega arith)))

some : (n : ℕ) (e : ℤ) → suc n * up e ≡ 0 → ⊥
some n e h = lt_irrefl 0 (subst (λ (x : ℕ). 0 < x) h (mul-pos (zero-lt-suc n) (up_pos e)))

pub ln_zero : (v : Float) → eq v (bits 0) ≡ true → inf true ≡ ln_of v
unfolding ln_of
ln_zero nan h = absurd (true≢false (sym h ∙ (unfold eq in refl)))
ln_zero (inf s) h = absurd (true≢false (sym h ∙ (unfold eq of_bits in refl)))
ln_zero (fin s zero e) h = refl
ln_zero (fin s (suc n) e) h = absurd (some n e (none s (suc n) e h))

pub ln_infinity : (v : Float) → eq v infinity ≡ true → v ≡ ln_of v
unfolding eq of_bits ln_of
ln_infinity nan h = refl
ln_infinity (inf true) h = absurd (true≢false (sym h))
ln_infinity (inf false) h = refl
ln_infinity (fin s m e) h = absurd (true≢false (sym h))

-- ---- numbers above zero
pub record Above (v : Float) : Type 0 where
  pub number : is_nan v ≡ false
  pub positive : lt v (bits 0) ≡ false
  pub nonzero : eq v (bits 0) ≡ false
  pub finite : eq v infinity ≡ false

pub is_number : (v : Float) → Above v → T (not (is_nan v))
is_number v a = subst (λ (x : Bool). T (not x)) (sym a.number) tt

minus : (n : ℕ) (d : ℤ) → lt (fin true (suc n) d) (bits 0) ≡ false → ⊥
unfolding lt of_bits
minus n d h = omega (arith, mul-pos (zero-lt-suc n) (up_pos d), ltb-false 0 (suc n * up d * 1 + 0 * down d) h)

-- a law of a number above zero holds of every v that passes the tests
module _ (P : Float → Type 0) (law : (n : ℕ) (d : ℤ) → P (fin false (suc n) d)) where
  above : (v : Float) → Above v → P v
  above nan a = unfold is_nan in absurd (true≢false a.number)
  above (inf true) a = unfold lt of_bits in absurd (true≢false a.positive)
  above (inf false) a = unfold eq of_bits in absurd (true≢false a.finite)
  above (fin s zero d) a = absurd (true≢false (sym (zero_is s d) ∙ a.nonzero))
  above (fin true (suc n) d) a = absurd (minus n d a.positive)
  above (fin false (suc n) d) a = law n d

abbrev fields_log : Float → ℕ → Float
fields_log x bias = log_of (bits (to_bits binary64 x % 4503599627370496 + 0x3ff0000000000000)) (of_int binary64 (sub_ℕ (to_bits binary64 x / 4503599627370496) bias))

Normal : Float → Type 0
Normal v = T (fits binary64 v) → lt v tiny ≡ false → fields_log v 1023 ≡ ln_of v

normal : (n : ℕ) (d : ℤ) → Normal (fin false (suc n) d)
unfolding Normal lt of_bits
normal n d F h =
    log_fields n d 0 (suc n) d F (ap (λ (x : ℕ). x * down d) (sym (mul-one (suc n * up d))))
    (le_trans (le_of_eq (sym (one-mul (down d)))) (ltb-false (suc n * up d * 2 ^ 1022) (1 * down d) h))

pub ln_normal : (v : Float) → T (fits binary64 v) → Above v → lt v tiny ≡ false → fields_log v 1023 ≡ ln_of v
unfolding Normal
ln_normal v F a h = above Normal normal v a F h

-- ---- 2^54 times a subnormal number
at_least : (N D E X p q : ℕ) → 0 < D → X * D ≡ N * p * E → D ≤ N * (p * q) → E ≤ X * q
at_least N D E X p q P e h = le_of_mul-le-mul_right
    (le_trans (le_of_eq (mul_comm E D)) (le_trans (mul-le-mul_right E h) (le_of_eq (turn ∙ ap (λ (x : ℕ). x * q) (sym e) ∙ mul_right_comm X D q)))) P
  where
    turn : N * (p * q) * E ≡ N * p * E * q
    turn = ap (λ (x : ℕ). x * E) (sym (mul_assoc N p q)) ∙ mul_right_comm (N * p) q E

least : (n : ℕ) (d : ℤ) → down d ≤ 2 ^ 1074 → down d ≤ suc n * up d * 2 ^ 1076
least n d h =
    let one : 1 ≤ suc n * up d = mul-pos (zero-lt-suc n) (up_pos d) in
    let wide : 1074 ≤ 1076 = omega arith in
    le_trans h (le_trans (pow_mono wide) (le_trans (le_of_eq (sym (one-mul (2 ^ 1076)))) (mul-le-mul_right (2 ^ 1076) one)))

scaled_log : (x : Float) (n : ℕ) (d : ℤ) → T (fits binary64 x) → down d ≤ 2 ^ 1074 → HasValue x false (suc n * up d * 2 ^ 54) (down d)
    → fields_log x 1077 ≡ ln_of (fin false (suc n) d)
scaled_log nan n d F h v = absurd v
scaled_log (inf s) n d F h v = absurd v
scaled_log (fin true m e) n d F h v = absurd (true≢false v.0)
scaled_log (fin false m e) n d F h v =
    log_fields n d 54 m e F v.1 (at_least (suc n * up d) (down d) (down e) (m * up e) (2 ^ 54) (2 ^ 1022) (down_pos d) v.1
    (le_trans (least n d h) (le_of_eq (ap (λ (x : ℕ). suc n * up d * x) (pow-add 2 54 1022)))))

scaled_value : (n : ℕ) (d : ℤ) → T (fits binary64 (fin false (suc n) d)) → lt (fin false (suc n) d) tiny ≡ true
    → HasValue (fin false (suc n) d ⊗ scale) false (suc n * up d * 2 ^ 54) (down d)
unfolding lt of_bits mul
scaled_value n d F h = scaled (suc n) d 54 F (below (suc n * up d) (down d) (ltb-true (suc n * up d * 2 ^ 1022) (1 * down d) h))
  where
    below : (N D : ℕ) → N * 2 ^ 1022 < 1 * D → N * 2 ^ 54 < 2 ^ 1024 * D
    below N D h = lt_of_le_of_lt (mul-le-mul_left N (lit≤ tt)) (lt_of_lt_of_le h (mul-le-mul_right D (lit≤ tt)))

Subnormal : Float → Type 0
Subnormal v = T (fits binary64 v) → lt v tiny ≡ true → (fields_log (v ⊗ scale) 1077 ≡ ln_of v) × T (not (is_nan (v ⊗ scale)))

valued : (x : Float) (a c : ℕ) → HasValue x false a c → T (not (is_nan x))
unfolding is_nan
valued nan a c v = v
valued (inf s) a c v = tt
valued (fin s m e) a c v = tt

subnormal : (n : ℕ) (d : ℤ) → Subnormal (fin false (suc n) d)
unfolding Subnormal
subnormal n d F h =
    let v = scaled_value n d F h in
    let x = fin false (suc n) d ⊗ scale in
    (scaled_log x n d (mul-fits binary64 (fin false (suc n) d) scale) (held false n d F).least v, valued x (suc n * up d * 2 ^ 54) (down d) v)

pub ln_subnormal : (v : Float) → T (fits binary64 v) → Above v → lt v tiny ≡ true → (fields_log (v ⊗ scale) 1077 ≡ ln_of v) × T (not (is_nan (v ⊗ scale)))
unfolding Subnormal
ln_subnormal v F a h = above Subnormal subnormal v a F h

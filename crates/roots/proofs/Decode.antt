-- What `sqrt_of` and `cbrt_of` give, by the tests that `sqrt` and `cbrt` make on x and on its bit pattern b. Assumes nothing.
use mathlib.Core.Path.{◌≡◌, refl, sym, ap, ◌∙◌, subst}
use Prim.Native.Nat.{ℕ, zero, suc, ◌+◌, ◌*◌, ◌/◌, ◌%◌, ◌^◌, ◌≤◌, ◌<◌}
use native.Mathlib.Nat.{lt_of_lt_of_le, lt_irrefl, zero-mul, mul-one, zero-lt-suc, mul-pos, mul-div_cancel, mul_assoc, mul_right_comm, mod-eq_of_lt, add_comm}
use native.Mathlib.Omega.{arith}
use mathlib.Core.Bool.{Bool, true, false, not, cond, ◌&&◌, ◌||◌, true≢false, false≢true, beq}
use lib.IntN.{ℤ, pos}
use lib.Dec.{T, leb, ltb, eqb, nleb→lt, lt→ltb, eqb→eq, lit≤}
use lib.Arith.{lt→nleb}
use lib.Pow.{pow-add, pow_pos}
use lib.Ieee.{Float, nan, inf, fin, binary64, up, down, odd, lt, eq, fits, of_fields, of_bits, to_bits}
use lib.Ieee.Fits.{up_pos, down_pos, and_l}
use lib.Ieee.Bits.{of_bits-to_bits, is_true, is_false}
use lib.Ieee.Exact.{HasValue, odd_sign}
use lib.Ieee.Positive.{first_pos}
use Rattle.roots.specs.Root.{root_of, sqrt_of}
use Rattle.roots.specs.Cube.{cube_root_of, cbrt_of}
use Rattle.roots.specs.Parts.{pattern_units, IsParts}
use Rattle.roots.proofs.Units.{small, low_units, high_units}

abbrev pub 0f : Float
0f = fin false 0 (pos 0)

-- ---- x that is not above zero
some_m : (m : ℕ) (e : ℤ) → 0 < suc m * up e * 1
some_m m e = mul-pos (mul-pos (zero-lt-suc m) (up_pos e)) (zero-lt-suc 0)

is_zero : (x : Float) → eq x 0f ≡ true → (s : Bool) × (e : ℤ) × (x ≡ fin s zero e)
unfolding eq
is_zero nan h = absurd (false≢true h)
is_zero (inf s) h = absurd (false≢true h)
is_zero (fin s zero e) h = (s, e, refl)
is_zero (fin s (suc m) e) h =
    absurd (lt_irrefl 0 (subst (λ (x : ℕ). 0 < x)
    (eqb→eq (suc m * up e * 1) (0 * 1 * down e) (and_l (eqb (suc m * up e * 1) (0 * 1 * down e)) (beq s false || eqb (suc m * up e * 1) 0) (subst T (sym h) tt)) ∙ zero-mul (down e))
    (some_m m e)))

data NotAbove : Float → Type 0 where
  no_number : NotAbove nan
  bottom : NotAbove (inf true)
  negative : (m : ℕ) (e : ℤ) → NotAbove (fin true (suc m) e)

not_above : (x : Float) → lt 0f x ≡ false → eq x 0f ≡ false → NotAbove x
unfolding lt eq
not_above nan p q = no_number
not_above (inf false) p q = absurd (true≢false p)
not_above (inf true) p q = bottom
not_above (fin s zero e) p q = absurd (true≢false (sym (at s) ∙ q))
  where
    flip : (s : Bool) → (eqb 0 0 && (beq s false || eqb 0 0)) ≡ true
    flip false = refl
    flip true = refl

    at : (s : Bool) → (eqb (0 * up e * 1) (0 * 1 * down e) && (beq s false || eqb (0 * up e * 1) 0)) ≡ true
    at s = ap (λ (z : ℕ). eqb (z * 1) (0 * 1 * down e) && (beq s false || eqb (z * 1) 0)) (zero-mul (up e)) ∙ ap (λ (z : ℕ). eqb 0 z && (beq s false || eqb 0 0)) (zero-mul (down e)) ∙ flip s
not_above (fin true (suc m) e) p q = negative m e
not_above (fin false (suc m) e) p q =
    absurd (true≢false (sym (is_true (ltb (0 * 1 * down e) (suc m * up e * 1)) (subst (λ (z : ℕ). T (ltb z (suc m * up e * 1))) (sym (zero-mul (down e))) (lt→ltb 0 (suc m * up e * 1) (some_m m e)))) ∙ p))

pub sqrt_zero : (x : Float) → eq x 0f ≡ true → x ≡ sqrt_of x
unfolding sqrt_of
sqrt_zero x h = let z = is_zero x h in subst (λ (y : Float). y ≡ sqrt_of y) (sym z.2) refl

sqrt_none : {x : Float} → NotAbove x → nan ≡ sqrt_of x
unfolding sqrt_of
sqrt_none no_number = refl
sqrt_none bottom = refl
sqrt_none (negative m e) = refl

pub sqrt_rest : (x : Float) → lt 0f x ≡ false → eq x 0f ≡ false → nan ≡ sqrt_of x
sqrt_rest x p q = sqrt_none (not_above x p q)

pub cbrt_zero : (x : Float) → eq x 0f ≡ true → 0f ≡ cbrt_of x
unfolding cbrt_of
cbrt_zero x h = let z = is_zero x h in subst (λ (y : Float). 0f ≡ cbrt_of y) (sym z.2) refl

pub cbrt_bottom : (x : Float) → eq x (inf true) ≡ true → inf false ≡ cbrt_of x
unfolding eq cbrt_of
cbrt_bottom nan h = absurd (false≢true h)
cbrt_bottom (inf s) h = refl
cbrt_bottom (fin s m e) h = absurd (false≢true h)

cbrt_none : {x : Float} → NotAbove x → eq x (inf true) ≡ false → nan ≡ cbrt_of x
unfolding eq cbrt_of
cbrt_none no_number h = refl
cbrt_none bottom h = absurd (true≢false h)
cbrt_none (negative m e) h = refl

pub cbrt_rest : (x : Float) → lt 0f x ≡ false → eq x 0f ≡ false → eq x (inf true) ≡ false → nan ≡ cbrt_of x
cbrt_rest x p q h = cbrt_none (not_above x p q) h

-- ---- x above zero, by its bit pattern
-- nothing negative is above zero
lt_neg : (y : Float) (a c : ℕ) → HasValue y true a c → lt 0f y ≡ true → ⊥
unfolding lt
lt_neg nan a c v h = absurd v
lt_neg (inf s) a c v h = absurd v
lt_neg (fin false m e) a c v h = false≢true v.0
lt_neg (fin true m e) a c v h = false≢true h

neg_fields : (k t : ℕ) → lt 0f (of_fields binary64 true k t) ≡ true → ⊥
unfolding of_fields lt
neg_fields zero t h = lt_neg (odd 53 true t 0 1074) (t * 2 ^ 0) (2 ^ 1074) (odd_sign 53 true t 0 1074) h
neg_fields (suc k) t h = go (eqb (suc k) 2047) (eqb t 0) h
  where
    go : (p q : Bool) → lt 0f (cond p (cond q (inf true) nan) (odd 53 true (2 ^ 52 + t) k 1074)) ≡ true → ⊥
    go true true h = false≢true h
    go true false h = false≢true h
    go false q h = lt_neg (odd 53 true (2 ^ 52 + t) k 1074) ((2 ^ 52 + t) * 2 ^ k) (2 ^ 1074) (odd_sign 53 true (2 ^ 52 + t) k 1074) h

of_bits_is : (b : ℕ) → of_bits binary64 b ≡ of_fields binary64 (leb 0x8000000000000000 b) (b % 0x8000000000000000 / 4503599627370496) (b % 4503599627370496)
unfolding of_bits
of_bits_is b = refl

plus_fields : (b : ℕ) → b < 0x8000000000000000 → of_bits binary64 b ≡ of_fields binary64 false (b / 4503599627370496) (b % 4503599627370496)
plus_fields b h =
    of_bits_is b ∙ ap (λ (s : Bool). of_fields binary64 s (b % 0x8000000000000000 / 4503599627370496) (b % 4503599627370496)) (is_false (leb 0x8000000000000000 b) (lt→nleb 0x8000000000000000 b h))
    ∙ ap (λ (z : ℕ). of_fields binary64 false (z / 4503599627370496) (b % 4503599627370496)) (mod-eq_of_lt h)

at_top : (t : ℕ) → lt 0f (of_fields binary64 false 2047 t) ≡ true → of_fields binary64 false 2047 t ≡ inf false
unfolding of_fields lt
at_top t h = go (eqb t 0) h
  where
    go : (q : Bool) → lt 0f (cond q (inf false) nan) ≡ true → cond q (inf false) nan ≡ inf false
    go true h = refl
    go false h = absurd (false≢true h)

big_bits : (b : ℕ) → 0x7ff0000000000000 ≤ b → lt 0f (of_bits binary64 b) ≡ true → of_bits binary64 b ≡ inf false
big_bits b l h = go (leb 0x8000000000000000 b) refl
  where
    go : (s : Bool) → leb 0x8000000000000000 b ≡ s → of_bits binary64 b ≡ inf false
    go true e = absurd (neg_fields (b % 0x8000000000000000 / 4503599627370496) (b % 4503599627370496)
        (subst (λ (y : Float). lt 0f y ≡ true) (of_bits_is b ∙ ap (λ (s : Bool). of_fields binary64 s (b % 0x8000000000000000 / 4503599627370496) (b % 4503599627370496)) e) h))
    go false e =
        let u : b < 0x8000000000000000 = below b e in
        let i : of_bits binary64 b ≡ of_fields binary64 false 2047 (b % 4503599627370496) =
        plus_fields b u ∙ ap (λ (k : ℕ). of_fields binary64 false k (b % 4503599627370496)) (field b l u) in
        i ∙ at_top (b % 4503599627370496) (subst (λ (y : Float). lt 0f y ≡ true) i h)
      where
        below : (b : ℕ) → leb 0x8000000000000000 b ≡ false → b < 0x8000000000000000
        below b e = nleb→lt' 0x8000000000000000 b e
          where
            nleb→lt' : (m n : ℕ) → leb m n ≡ false → n < m
            nleb→lt' m n e = nleb→lt m n (subst (λ (z : Bool). T (not z)) (sym e) tt)

        field : (b : ℕ) → 0x7ff0000000000000 ≤ b → b < 0x8000000000000000 → b / 4503599627370496 ≡ 2047
        field b l u = omega arith

zero_bits : of_bits binary64 0 ≡ 0f
unfolding of_bits
zero_bits = refl

no : lt 0f 0f ≡ true → ⊥
unfolding lt
no e = false≢true e

-- what `to_bits` writes is read back
module _ (x : Float) (F : T (fits binary64 x)) (h : lt 0f x ≡ true) where
  read : of_bits binary64 (to_bits binary64 x) ≡ x
  read = of_bits-to_bits binary64 x F

  pub of_inf : 0x7ff0000000000000 ≤ to_bits binary64 x → x ≡ inf false
  of_inf l = sym read ∙ big_bits (to_bits binary64 x) l (subst (λ (y : Float). lt 0f y ≡ true) (sym read) h)

  pub bits_pos : 0 < to_bits binary64 x
  bits_pos = go (to_bits binary64 x) refl
    where
      go : (b : ℕ) → to_bits binary64 x ≡ b → 0 < b
      go zero e = absurd (no (subst (λ (y : Float). lt 0f y ≡ true) (sym read ∙ ap (of_bits binary64) e ∙ zero_bits) h))
      go (suc b) e = zero-lt-suc b

low_fields : (t : ℕ) → of_fields binary64 false 0 t ≡ odd 53 false t 0 1074
unfolding of_fields
low_fields t = refl

-- ---- the value of a pattern, in units of 2 ^ -1074
pub low_value : (x : Float) → T (fits binary64 x) → lt 0f x ≡ true → to_bits binary64 x < 4503599627370496 → HasValue x false (to_bits binary64 x) (2 ^ 1074)
low_value x F h l =
    let b = to_bits binary64 x in
    let i : x ≡ odd 53 false b 0 1074 =
    sym (read x F h) ∙ plus_fields b (lt_of_lt_of_le l (lit≤ tt)) ∙ ap (λ (k : ℕ). of_fields binary64 false k (b % 4503599627370496)) (small b l) ∙ low_fields (b % 4503599627370496) ∙ ap (λ (t : ℕ). odd 53 false t 0 1074) (mod-eq_of_lt l) in
    subst (λ (y : Float). HasValue y false b (2 ^ 1074)) (sym i) (subst (λ (a : ℕ). HasValue (odd 53 false b 0 1074) false a (2 ^ 1074)) (mul-one b) (odd_sign 53 false b 0 1074))

normal_fields : (k t : ℕ) → suc k < 2047 → of_fields binary64 false (suc k) t ≡ odd 53 false (2 ^ 52 + t) k 1074
unfolding of_fields
normal_fields k t h = go (eqb (suc k) 2047) (eqb→eq (suc k) 2047)
  where
    differ : (k : ℕ) → suc k < 2047 → suc k ≡ 2047 → ⊥
    differ k h e = omega arith

    go : (p : Bool) → (T p → suc k ≡ 2047) → cond p (cond (eqb t 0) (inf false) nan) (odd 53 false (2 ^ 52 + t) k 1074) ≡ odd 53 false (2 ^ 52 + t) k 1074
    go true e = absurd (differ k h (e tt))
    go false e = refl

pub high_value : (x : Float) → T (fits binary64 x) → lt 0f x ≡ true → to_bits binary64 x < 0x7ff0000000000000 → (k : ℕ) → to_bits binary64 x / 4503599627370496 ≡ suc k
    → HasValue x false ((2 ^ 52 + to_bits binary64 x % 4503599627370496) * 2 ^ k) (2 ^ 1074)
high_value x F h l k e =
    let t = to_bits binary64 x % 4503599627370496 in
    let i : x ≡ odd 53 false (2 ^ 52 + t) k 1074 =
    sym (read x F h) ∙ plus_fields (to_bits binary64 x) (lt_of_lt_of_le l (lit≤ tt)) ∙ ap (λ (z : ℕ). of_fields binary64 false z t) e ∙ normal_fields k t (small (to_bits binary64 x) (suc k) l e) in
    subst (λ (y : Float). HasValue y false ((2 ^ 52 + t) * 2 ^ k) (2 ^ 1074)) (sym i) (odd_sign 53 false (2 ^ 52 + t) k 1074)
  where
    small : (b k : ℕ) → b < 0x7ff0000000000000 → b / 4503599627370496 ≡ k → k < 2047
    small b k h e = omega arith

-- what `split` gives of the pattern
units_value : (x : Float) → T (fits binary64 x) → lt 0f x ≡ true → to_bits binary64 x < 0x7ff0000000000000 → HasValue x false (pattern_units (to_bits binary64 x)) (2 ^ 1074)
units_value x F h l = go (to_bits binary64 x / 4503599627370496) refl
  where
    low : (b : ℕ) → b / 4503599627370496 ≡ 0 → b < 4503599627370496
    low b e = omega arith

    go : (k : ℕ) → to_bits binary64 x / 4503599627370496 ≡ k → HasValue x false (pattern_units (to_bits binary64 x)) (2 ^ 1074)
    go zero e = let s = low (to_bits binary64 x) e in subst (λ (a : ℕ). HasValue x false a (2 ^ 1074)) (sym (low_units (to_bits binary64 x) s)) (low_value x F h s)
    go (suc k) e =
        subst (λ (a : ℕ). HasValue x false a (2 ^ 1074)) (ap (λ (z : ℕ). z * 2 ^ k) (add_comm (2 ^ 52) (to_bits binary64 x % 4503599627370496)) ∙ sym (high_units (to_bits binary64 x) k e)) (high_value x F h l k e)

-- ---- the roots
-- x = a / 2 ^ 1074, for an a above 0: what is rooted is a * 2 ^ E
module _ (root : ℕ → Float) (E : ℕ) (of : Float → Float) (at : (m : ℕ) (e : ℤ) → root (suc m * up e * (2 ^ 1074 * 2 ^ E) / down e) ≡ of (fin false (suc m) e)) where
  of_value : (x : Float) (a : ℕ) → 0 < a → HasValue x false a (2 ^ 1074) → root (a * 2 ^ E) ≡ of x
  of_value nan a A v = absurd v
  of_value (inf s) a A v = absurd v
  of_value (fin true m e) a A v = absurd (true≢false v.0)
  of_value (fin false zero e) a A v = absurd (lt_irrefl 0 (subst (λ (z : ℕ). 0 < z) (sym v.1 ∙ ap (λ (z : ℕ). z * 2 ^ 1074) (zero-mul (up e))) (mul-pos A (down_pos e))))
  of_value (fin false (suc m) e) a A v =
      sym (ap root (ap (λ (z : ℕ). z / down e) (sym (mul_assoc (suc m * up e) (2 ^ 1074) (2 ^ E)) ∙ ap (λ (z : ℕ). z * 2 ^ E) v.1 ∙ mul_right_comm a (down e) (2 ^ E)) ∙ mul-div_cancel (a * 2 ^ E) (down_pos e))) ∙ at m e

  -- from the parts m and e of x's pattern: 2 ^ (c + d) and the 2 ^ 52 of the parts are 2 ^ E
  of_parts : (x : Float) → T (fits binary64 x) → lt 0f x ≡ true → to_bits binary64 x < 0x7ff0000000000000 → (c d : ℕ) → 52 + (c + d) ≡ E → (m e : ℕ) → IsParts (to_bits binary64 x) m e → root (m * 2 ^ (e + c + d)) ≡ of x
  of_parts x F h l c d q m e P = ap root (ap (λ (z : ℕ). m * 2 ^ z) (flat e) ∙ ap (λ (z : ℕ). m * z) (pow-add 2 e (c + d)) ∙ sym (mul_assoc m (2 ^ e) (2 ^ (c + d))) ∙ same) ∙ of_value x a (first_pos a (2 ^ 52) (subst (λ (z : ℕ). 0 < z) P.is (mul-pos (lt_of_lt_of_le (lit≤ tt) P.least) (pow_pos e)))) (units_value x F h l)
    where
      a : ℕ
      a = pattern_units (to_bits binary64 x)

      flat : (e : ℕ) → e + c + d ≡ e + (c + d)
      flat e = omega arith

      same : m * 2 ^ e * 2 ^ (c + d) ≡ a * 2 ^ E
      same = ap (λ (z : ℕ). z * 2 ^ (c + d)) P.is ∙ mul_assoc a (2 ^ 52) (2 ^ (c + d)) ∙ ap (λ (z : ℕ). a * z) (sym (pow-add 2 52 (c + d)) ∙ ap (λ (z : ℕ). 2 ^ z) q)

-- ---- the square root
sqrt_at : (m : ℕ) (e : ℤ) → root_of (suc m * up e * (2 ^ 1074 * 2 ^ 1076) / down e) ≡ sqrt_of (fin false (suc m) e)
unfolding sqrt_of
sqrt_at m e = refl

pub sqrt_value : (x : Float) (a : ℕ) → 0 < a → HasValue x false a (2 ^ 1074) → root_of (a * 2 ^ 1076) ≡ sqrt_of x
sqrt_value = of_value root_of 1076 sqrt_of sqrt_at

pub sqrt_inf : (x : Float) → x ≡ inf false → x ≡ sqrt_of x
unfolding sqrt_of
sqrt_inf x e = subst (λ (y : Float). y ≡ sqrt_of y) (sym e) refl

pub sqrt_parts : (x : Float) → T (fits binary64 x) → lt 0f x ≡ true → to_bits binary64 x < 0x7ff0000000000000 → (m e : ℕ) → IsParts (to_bits binary64 x) m e → root_of (m * 2 ^ (e + 970 + 54)) ≡ sqrt_of x
sqrt_parts x F h l = of_parts root_of 1076 sqrt_of sqrt_at x F h l 970 54 refl

-- ---- the cube root
cbrt_at : (m : ℕ) (e : ℤ) → cube_root_of (suc m * up e * (2 ^ 1074 * 2 ^ 2151) / down e) ≡ cbrt_of (fin false (suc m) e)
unfolding cbrt_of
cbrt_at m e = refl

pub cbrt_value : (x : Float) (a : ℕ) → 0 < a → HasValue x false a (2 ^ 1074) → cube_root_of (a * 2 ^ 2151) ≡ cbrt_of x
cbrt_value = of_value cube_root_of 2151 cbrt_of cbrt_at

pub cbrt_inf : (x : Float) → x ≡ inf false → x ≡ cbrt_of x
unfolding cbrt_of
cbrt_inf x e = subst (λ (y : Float). y ≡ cbrt_of y) (sym e) refl

pub cbrt_parts : (x : Float) → T (fits binary64 x) → lt 0f x ≡ true → to_bits binary64 x < 0x7ff0000000000000 → (m e : ℕ) → IsParts (to_bits binary64 x) m e → cube_root_of (m * 2 ^ (e + 1992 + 107)) ≡ cbrt_of x
cbrt_parts x F h l = of_parts cube_root_of 2151 cbrt_of cbrt_at x F h l 1992 107 refl

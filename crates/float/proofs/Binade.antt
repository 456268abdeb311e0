-- A number above zero is m×2^e, 1 ≤ m < 2, in one way; its bit pattern holds both. Assumes nothing.
use Rattle.std.proofs.Common.{◌≡◌, ℕ, zero, suc, ◌+◌, ◌-◌, ◌*◌, ◌/◌, ◌%◌, ◌^◌, ◌<◌, ◌≤◌, true, false, T, leb, ℤ, pos, negsuc, ◌+ℤ◌, sym, ap, ◌∙◌, subst, inl, inr, true≢false, le_trans, le_of_eq, lt_of_lt_of_le, lt_of_le_of_lt, lt_irrefl, mul-le-mul_right, mod-lt, mul_assoc, mul_comm, le_antisymm, mul-pos, zero-mul, mul-one, mul_right_comm, not-le_of_lt, le_of_mul-le-mul_right, arith, lit<, pow_pos, pow_mono, pow-add, shl_lt, le-ltb, lt-ltb}
use native.Mathlib.Nat.{eq_of_mul-eq-mul_right}
use lib.IntN.{sub_ℕ}
use lib.Arith.{lt→nleb}
use lib.Ieee.{Float, nan, inf, fin, binary64, up, down, lt, of_bits, of_fields, to_bits, fits, round, odd, of_int, size}
use lib.Ieee.Digits.{size-lt, size_reaches}
use lib.Ieee.Fits.{down_pos}
use lib.Ieee.Bits.{is_false, of_bits-fits}
use lib.Ieee.Exact.{HasValue, odd_sign}
use lib.Ieee.Scale.{round_same}
use Rattle.roots.proofs.Decode.{0f, of_inf, low_value, high_value}
use Rattle.float.specs.Ops.{bits}
use Rattle.float.specs.Log.{shift, significand_of, exponent_of, log_of, ln_of}
use Rattle.laws.proofs.Numbers.{lt_or_ge}
use Rattle.float.proofs.Own.{round_own}

-- ---- one binade for a number
exponent_le : (a b z : ℕ) → 2 ^ a ≤ z → z < 2 ^ (b + 1) → a ≤ b
exponent_le a b z h g = elim (lt_or_ge b a) [
  | inl p ↦ let q : b + 1 ≤ a = omega arith in absurd (not-le_of_lt (lt_of_le_of_lt h g) (pow_mono q))
  | inr p ↦ p
]

-- n×2^P = q×2^R, with k + 1 binary digits in n and 53 in q
unfoldable Placed : ℕ → ℕ → ℕ → ℕ → ℕ → Type 0
Placed n q k P R = (k + P ≡ 52 + R) × (n * 2 ^ 52 ≡ q * 2 ^ k)

low_end : (k P n : ℕ) → 2 ^ k ≤ n → 2 ^ (k + P) ≤ n * 2 ^ P
low_end k P n h = le_trans (le_of_eq (pow-add 2 k P)) (mul-le-mul_right (2 ^ P) h)

high_end : (k P n : ℕ) → n < 2 ^ (k + 1) → n * 2 ^ P < 2 ^ (k + P + 1)
high_end k P n h = lt_of_lt_of_le (shl_lt (k + 1) P h) (le_of_eq (ap (λ (x : ℕ). 2 ^ x) (turn k P)))
  where
    turn : (k P : ℕ) → k + 1 + P ≡ k + P + 1
    turn k P = omega arith

placed : (n q k P R : ℕ) → n * 2 ^ P ≡ q * 2 ^ R → 2 ^ k ≤ n → n < 2 ^ (k + 1) → 2 ^ 52 ≤ q → q < 2 ^ 53 → Placed n q k P R
unfolding Placed
placed n q k P R e a b c d =
    let s : k + P ≡ 52 + R = le_antisymm
    (exponent_le (k + P) (52 + R) (n * 2 ^ P) (low_end k P n a) (subst (λ (x : ℕ). x < 2 ^ (52 + R + 1)) (sym e) (high_end 52 R q d)))
    (exponent_le (52 + R) (k + P) (q * 2 ^ R) (low_end 52 R q c) (subst (λ (x : ℕ). x < 2 ^ (k + P + 1)) e (high_end k P n b))) in (
      s,
      eq_of_mul-eq-mul_right (2 ^ P) (pow_pos P) (n * 2 ^ 52) (q * 2 ^ k)
          (mul_right_comm n (2 ^ 52) (2 ^ P) ∙ ap (λ (x : ℕ). x * 2 ^ 52) e ∙ mul_assoc q (2 ^ R) (2 ^ 52)
          ∙ ap (λ (x : ℕ). q * x) (sym (pow-add 2 R 52) ∙ ap (λ (x : ℕ). 2 ^ x) (swap R k P s) ∙ pow-add 2 k P) ∙ sym (mul_assoc q (2 ^ k) (2 ^ P))),
    )
  where
    swap : (R k P : ℕ) → k + P ≡ 52 + R → R + 52 ≡ k + P
    swap R k P h = omega arith

-- ---- the digits of a number above zero
shift_is : (n : ℕ) → (2 ^ shift (suc n) ≤ suc n) × (suc n < 2 ^ (shift (suc n) + 1))
unfolding shift
shift_is n = go (size (suc n)) (size-lt (suc n)) (size_reaches (suc n))
  where
    go : (z : ℕ) → suc n < 2 ^ z → ((j : ℕ) → j < z → 2 ^ j ≤ suc n) → (2 ^ (z - 1) ≤ suc n) × (suc n < 2 ^ (z - 1 + 1))
    go zero a b = absurd (small n a)
      where
        small : (n : ℕ) → suc n < 1 → ⊥
        small n h = omega arith
    go (suc z) a b = (b (suc z - 1) (omega arith), subst (λ (x : ℕ). suc n < 2 ^ x) (same z) a)
      where
        same : (z : ℕ) → suc z ≡ suc z - 1 + 1
        same z = omega arith

-- ---- m
pub of_value : (x : Float) (a c : ℕ) → T (fits binary64 x) → 0 < a → 0 < c → HasValue x false a c → round binary64 false a c ≡ x
of_value nan a c F A C v = absurd v
of_value (inf s) a c F A C v = absurd v
of_value (fin true m e) a c F A C v = absurd (true≢false v.0)
of_value (fin false zero e) a c F A C v =
    absurd (lt_irrefl 0 (subst (λ (z : ℕ). 0 < z) (sym v.1 ∙ ap (λ (z : ℕ). z * c) (zero-mul (up e)) ∙ zero-mul c) (mul-pos A (down_pos e))))
of_value (fin false (suc m) e) a c F A C v = round_same binary64 false a c (suc m * up e) (down e) C (down_pos e) (sym v.1) ∙ round_own false m e F

-- the pattern of 1 + t/2^52
one_fields : (b t : ℕ) → leb 0x8000000000000000 b ≡ false → b % 0x8000000000000000 / 4503599627370496 ≡ 1023 → b % 4503599627370496 ≡ t
    → of_bits binary64 b ≡ odd 53 false (2 ^ 52 + t) 1022 1074
unfolding of_bits of_fields
one_fields b t p q r = rw (p, q, r)

one_digits : (t : ℕ) → t < 4503599627370496 → of_bits binary64 (t + 0x3ff0000000000000) ≡ odd 53 false (2 ^ 52 + t) 1022 1074
one_digits t h =
    one_fields (t + 0x3ff0000000000000) t (is_false (leb 0x8000000000000000 (t + 0x3ff0000000000000)) (lt→nleb 0x8000000000000000 (t + 0x3ff0000000000000) (omega arith)))
    (omega arith) (omega arith)

significand : (n t : ℕ) → t < 4503599627370496 → suc n * 2 ^ 52 ≡ (2 ^ 52 + t) * 2 ^ shift (suc n) → bits (t + 0x3ff0000000000000) ≡ significand_of (suc n)
unfolding significand_of
significand n t h e =
    let q = 2 ^ 52 + t in
    let k = shift (suc n) in
    sym (round_same binary64 false (suc n) (2 ^ k) (q * 2 ^ 1022) (2 ^ 1074) (pow_pos k) (pow_pos 1074)
    (ap (λ (x : ℕ). suc n * x) (pow-add 2 52 1022) ∙ sym (mul_assoc (suc n) (2 ^ 52) (2 ^ 1022)) ∙ ap (λ (x : ℕ). x * 2 ^ 1022) e ∙ mul_right_comm q (2 ^ k) (2 ^ 1022))
    ∙ of_value (bits (t + 0x3ff0000000000000)) (q * 2 ^ 1022) (2 ^ 1074) (of_bits-fits binary64 (t + 0x3ff0000000000000)) (mul-pos (some t) (pow_pos 1022)) (pow_pos 1074)
    (subst (λ (x : Float). HasValue x false (q * 2 ^ 1022) (2 ^ 1074)) (sym (one_digits t h)) (odd_sign 53 false q 1022 1074)))
  where
    some : (t : ℕ) → 0 < 2 ^ 52 + t
    some t = omega arith

-- ---- e
sub_same : (a b c d : ℕ) → a + d ≡ c + b → sub_ℕ a b ≡ sub_ℕ c d
sub_same a b c d h = elim (lt_or_ge a b) [
  | inl p ↦ let q : c < d = omega arith in let r : b - suc a ≡ d - suc c = omega arith in rw (lt-ltb a b p, lt-ltb c d q, r)
  | inr p ↦ let q : d ≤ c = omega arith in let r : a - b ≡ c - d = omega arith in rw (le-ltb a b p, le-ltb c d q, r)
]

sub_is : (a b c : ℕ) → a ≡ c + b → sub_ℕ a b ≡ pos c
sub_is a b c h = let p : b ≤ a = omega arith in let r : a - b ≡ c = omega arith in rw (le-ltb a b p, r)

-- ---- both from the pattern's fields: n×2^d×2^c = q×2^j/2^1074
Read : ℕ → ℤ → ℕ → ℕ → ℕ → Type 0
Read n d c t j = (suc n * 2 ^ 52 ≡ (2 ^ 52 + t) * 2 ^ shift (suc n)) × (sub_ℕ (suc j) (1023 + c) ≡ d +ℤ pos (shift (suc n)))

read : (n : ℕ) (d : ℤ) (c t j : ℕ) → t < 4503599627370496 → suc n * up d * 2 ^ c * 2 ^ 1074 ≡ (2 ^ 52 + t) * 2 ^ j * down d → Read n d c t j
unfolding Read Placed
read n (pos a) c t j h e =
    let s = shift_is n in
    let P = a + (c + 1074) in
    let r : Placed (suc n) (2 ^ 52 + t) (shift (suc n)) P j = placed (suc n) (2 ^ 52 + t) (shift (suc n)) P j
    (join n (2 ^ a) (2 ^ c) (2 ^ 1074) (2 ^ P) (pow-add 2 a (c + 1074) ∙ ap (λ (x : ℕ). 2 ^ a * x) (pow-add 2 c 1074)) ∙ e ∙ mul-one ((2 ^ 52 + t) * 2 ^ j))
    s.0 s.1 (least t) (most t h) in
    (r.1, sub_is (suc j) (1023 + c) (a + shift (suc n)) (level a c j (shift (suc n)) r.0))
  where
    join : (n p q w z : ℕ) → z ≡ p * (q * w) → suc n * z ≡ suc n * p * q * w
    join n p q w z h = ap (λ (x : ℕ). suc n * x) h ∙ sym (mul_assoc (suc n) p (q * w)) ∙ sym (mul_assoc (suc n * p) q w)

    level : (a c j k : ℕ) → k + (a + (c + 1074)) ≡ 52 + j → suc j ≡ a + k + (1023 + c)
    level a c j k h = omega arith

    least : (t : ℕ) → 2 ^ 52 ≤ 2 ^ 52 + t
    least t = omega arith

    most : (t : ℕ) → t < 4503599627370496 → 2 ^ 52 + t < 2 ^ 53
    most t h = omega arith
read n (negsuc b) c t j h e =
    let s = shift_is n in
    let P = c + 1074 in
    let R = j + suc b in
    let r : Placed (suc n) (2 ^ 52 + t) (shift (suc n)) P R = placed (suc n) (2 ^ 52 + t) (shift (suc n)) P R
    (ap (λ (x : ℕ). suc n * x) (pow-add 2 c 1074) ∙ sym (mul_assoc (suc n) (2 ^ c) (2 ^ 1074)) ∙ ap (λ (x : ℕ). x * 2 ^ c * 2 ^ 1074) (sym (mul-one (suc n)))
    ∙ e ∙ mul_assoc (2 ^ 52 + t) (2 ^ j) (2 ^ suc b) ∙ ap (λ (x : ℕ). (2 ^ 52 + t) * x) (sym (pow-add 2 j (suc b))))
    s.0 s.1 (least t) (most t h) in
    (r.1, sub_same (suc j) (1023 + c) (shift (suc n)) (suc b) (level b c j (shift (suc n)) r.0))
  where
    level : (b c j k : ℕ) → k + (c + 1074) ≡ 52 + (j + suc b) → suc j + suc b ≡ k + (1023 + c)
    level b c j k h = omega arith

    least : (t : ℕ) → 2 ^ 52 ≤ 2 ^ 52 + t
    least t = omega arith

    most : (t : ℕ) → t < 4503599627370496 → 2 ^ 52 + t < 2 ^ 53
    most t h = omega arith

logs : (n : ℕ) (d : ℤ) (c t j : ℕ) → t < 4503599627370496 → Read n d c t j
    → log_of (bits (t + 0x3ff0000000000000)) (of_int binary64 (sub_ℕ (suc j) (1023 + c))) ≡ ln_of (fin false (suc n) d)
unfolding ln_of exponent_of Read
logs n d c t j h r = rw (significand n t h r.0, r.1)

abbrev Fin : Float → Type 0
Fin nan = ⊥
Fin (inf s) = ⊥
Fin (fin s m e) = Unit

-- ---- x = m×2^e is 2^c times v = (n + 1)×2^d, and normal
module _ (n : ℕ) (d : ℤ) (c m : ℕ) (e : ℤ) (F : T (fits binary64 (fin false m e)))
    (same : m * up e * down d ≡ suc n * up d * 2 ^ c * down e) (normal : down e ≤ m * up e * 2 ^ 1022) where
  b : ℕ
  b = to_bits binary64 (fin false m e)

  above : lt 0f (fin false m e) ≡ true
  unfolding lt
  above = lt-ltb (0 * 1 * down e) (m * up e * 1) (go (m * up e) (down e) (2 ^ 1022) (down_pos e) normal)
    where
      go : (x y p : ℕ) → 0 < y → y ≤ x * p → 0 * 1 * y < x * 1
      go zero y p h g = absurd (lt_irrefl 0 (lt_of_lt_of_le h (le_trans g (le_of_eq (zero-mul p)))))
      go (suc x) y p h g = omega arith

  finite : b < 0x7ff0000000000000
  unfolding b
  finite = elim (lt_or_ge (to_bits binary64 (fin false m e)) 0x7ff0000000000000) [
    | inl p ↦ p
    | inr p ↦ absurd (apart (of_inf (fin false m e) F above p))
  ]
    where
      apart : fin false m e ≡ inf false → ⊥
      apart h = subst Fin h tt

  large : 4503599627370496 ≤ b
  unfolding b
  large = elim (lt_or_ge (to_bits binary64 (fin false m e)) 4503599627370496) [
    | inl p ↦ absurd (not-le_of_lt p (le_of_mul-le-mul_right (le_trans (up_to normal) (le_of_eq (low_value (fin false m e) F above p).1)) (down_pos e)))
    | inr p ↦ p
  ]
    where
      up_to : down e ≤ m * up e * 2 ^ 1022 → 4503599627370496 * down e ≤ m * up e * 2 ^ 1074
      up_to h = le_trans (le_of_eq (mul_comm 4503599627370496 (down e))) (le_trans (mul-le-mul_right (2 ^ 52) h) (le_of_eq (mul_assoc (m * up e) (2 ^ 1022) (2 ^ 52) ∙ ap (λ (x : ℕ). m * up e * x) (sym (pow-add 2 1022 52)))))

  field : b / 4503599627370496 ≡ suc (b / 4503599627370496 - 1)
  field = go b large
    where
      go : (b : ℕ) → 4503599627370496 ≤ b → b / 4503599627370496 ≡ suc (b / 4503599627370496 - 1)
      go b h = omega arith

  value : suc n * up d * 2 ^ c * 2 ^ 1074 ≡ (2 ^ 52 + b % 4503599627370496) * 2 ^ (b / 4503599627370496 - 1) * down d
  unfolding b
  value =
      let q = (2 ^ 52 + b % 4503599627370496) * 2 ^ (b / 4503599627370496 - 1) in
      let v = suc n * up d * 2 ^ c in
      let h : m * up e * 2 ^ 1074 ≡ q * down e = (high_value (fin false m e) F above finite (b / 4503599627370496 - 1) field).1 in
      eq_of_mul-eq-mul_right (down e) (down_pos e) (v * 2 ^ 1074) (q * down d)
      (mul_right_comm v (2 ^ 1074) (down e) ∙ ap (λ (x : ℕ). x * 2 ^ 1074) (sym same) ∙ mul_right_comm (m * up e) (down d) (2 ^ 1074)
      ∙ ap (λ (x : ℕ). x * down d) h ∙ mul_right_comm q (down e) (down d))

  pub log_fields : log_of (bits (to_bits binary64 (fin false m e) % 4503599627370496 + 0x3ff0000000000000)) (of_int binary64 (sub_ℕ (to_bits binary64 (fin false m e) / 4503599627370496) (1023 + c))) ≡ ln_of (fin false (suc n) d)
  unfolding b
  log_fields =
      let t = b % 4503599627370496 in
      let j = b / 4503599627370496 - 1 in
      let l : t < 4503599627370496 = mod-lt b (lit< tt) in
      ap (λ (x : ℕ). log_of (bits (t + 0x3ff0000000000000)) (of_int binary64 (sub_ℕ x (1023 + c)))) field ∙ logs n d c t j l (read n d c t j l value)

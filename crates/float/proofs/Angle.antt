-- The quadrant: y = z / 1.57.. is at most 4 in size, so where it stands among the halves rounds it. Assumes nothing.
use Rattle.std.proofs.Common.{◌≡◌, ℕ, zero, suc, ◌+◌, ◌-◌, ◌*◌, ◌/◌, ◌%◌, ◌^◌, ◌<◌, ◌≤◌, Bool, true, false, T, ℤ, pos, negsuc, sym, refl, ap, ◌∙◌, subst, true≢false, lt_of_lt_of_le, lt_irrefl, mod-lt, zero-lt-suc, div-lt_iff_lt-mul, mul-pos, le-div_iff_mul-le, mul-one, arith, lit<, eqb→eq, ltb-false, ltb-true, le-ltb}
use native.Mathlib.Nat.{div-eq_of_lt-le}
use lib.Ieee.{Float, nan, inf, fin, binary64, up, down, unlike, neg, lt, of_bits, fits, round, rem, div, sub, mul, add, of_int}
use lib.Ieee.Fits.{up_pos, down_pos, div-fits}
use Rattle.float.specs.Ops.{bits, one, whole_of, round_of, ◌⊛◌, ◌⊘◌, ◌⊖◌, ◌⊗◌}
use Rattle.float.specs.Trig.{full, quarter, quadrant_of, quarters_of, rest_of, sin_at, cos_at, sin_of, cos_of, sin_poly, cos_poly, cosine_term, held_of, is_finite}
use Rattle.float.proofs.Own.{flat}
use Rattle.float.proofs.Rounding.{Within, Size, round_stays, rem_within, neg_round}

-- ---- where an a from 0 to 4 stands among 0.5, 1.5, 2.5 and 3.5 says what it rounds to

-- a number from 0 up that rounds to 4 at most
abbrev pub Counted : Float → Type 0
Counted a = (is_finite a ≡ true) × (lt a (bits 0) ≡ false) × (whole_of a ≤ 4)

-- o/2
abbrev halves : ℕ → Float
halves o = fin false o (negsuc 0)

rounds : (k a d : ℕ) → k * (2 * d) ≤ 2 * a + d → 2 * a + d < (k + 1) * (2 * d) → k ≡ (2 * a + d) / (2 * d)
rounds k a d p q = sym (div-eq_of_lt-le (2 * d) p q)

pub at_0 : (a : Float) → Counted a → lt a (halves 1) ≡ true → 0 ≡ whole_of a
unfolding lt of_bits whole_of
at_0 nan c h = refl
at_0 (inf s) c h = refl
at_0 (fin true m e) c h = rounds 0 (m * up e) (down e) (omega arith) (omega (arith, down_pos e, ltb-false 0 (m * up e * 1 + 0 * down e) c.1))
at_0 (fin false m e) c h = rounds 0 (m * up e) (down e) (omega arith) (omega (arith, ltb-true (m * up e * 2) (1 * down e) h))

below_none : (m : ℕ) (e : ℤ) (o : ℕ) → lt (fin true m e) (halves (suc o)) ≡ false → ⊥
unfolding lt
below_none m e o h = omega (arith, mul-pos (zero-lt-suc o) (down_pos e), mul-one (suc o), ltb-false 0 (m * up e * 2 + suc o * 1 * down e) h)

mid : (k A D : ℕ) → (2 * k + 1) * D ≤ A * 2 → A * 2 < (2 * k + 3) * D → k + 1 ≡ (2 * A + D) / (2 * D)
mid k A D h g = rounds (k + 1) A D (omega arith) (omega arith)

pub at_mid : (a : Float) (k : ℕ) → Counted a → lt a (halves (suc (2 * k))) ≡ false → lt a (halves (2 * k + 3)) ≡ true → k + 1 ≡ whole_of a
at_mid nan k c h g = absurd (true≢false (sym c.0))
at_mid (inf s) k c h g = absurd (true≢false (sym c.0))
at_mid (fin true m e) k c h g = absurd (below_none m e (2 * k) h)
at_mid (fin false m e) k c h g = unfold lt whole_of in mid k (m * up e) (down e) (omega (arith, ltb-false (m * up e * 2) (suc (2 * k) * 1 * down e) h)) (omega (arith, ltb-true (m * up e * 2) ((2 * k + 3) * 1 * down e) g))

last : (A D : ℕ) → 7 * D ≤ A * 2 → 0 < D → (2 * A + D) / (2 * D) ≤ 4 → 4 ≡ (2 * A + D) / (2 * D)
last A D h P g = let l : 4 ≤ (2 * A + D) / (2 * D) = (le-div_iff_mul-le (mul-pos (lit< tt) P)).1 (omega arith) in omega arith

pub at_4 : (a : Float) → Counted a → lt a (halves 7) ≡ false → 4 ≡ whole_of a
at_4 nan c h = absurd (true≢false (sym c.0))
at_4 (inf s) c h = absurd (true≢false (sym c.0))
at_4 (fin true m e) c h = absurd (below_none m e 6 h)
at_4 (fin false m e) c h = unfold lt whole_of in last (m * up e) (down e) (ltb-false (m * up e * 2) (7 * down e) h) (down_pos e) c.2

-- ---- y is at most 4 in size

abbrev Small : Float → Type 0
Small nan = Unit
Small (inf s) = ⊥
Small (fin s m e) = m * up e * 1 ≤ 4 * down e

small_size : (x : Float) → Size 4 1 x → Small x
small_size nan h = tt
small_size (inf t) h = h.1
small_size (fin t m e) h = h.1.1

-- z / 1.57.. for a z of at most 6.28..
div_size : (s : Bool) (z : Float) → Within s 884279719003555 (2 ^ 47) z → Size 4 1 (z ⊘ quarter)
unfolding div quarter round
div_size s nan h = absurd h
div_size s (inf t) h = absurd h
div_size s (fin t m e) h = (
  unlike t false,
  round_stays (unlike t false) (m * up e * 2 ^ 49) (884279719003555 * down e) 4 1 (mul-pos (lit< tt) (down_pos e)) (lit< tt) (omega (arith, h.1)) (refl, refl),
)

pub turn_within : (s : Bool) (m : ℕ) (e : ℤ) → Within s 884279719003555 (2 ^ 47) (fin s m e ⊛ full)
unfolding full round
turn_within s m e = rem_within s m e 884279719003555 (negsuc 46) (lit< tt) (refl, refl)

pub quarters_size : (s : Bool) (m : ℕ) (e : ℤ) → Size 4 1 (quarters_of (fin s m e))
unfolding quarters_of
quarters_size s m e = div_size s (fin s m e ⊛ full) (turn_within s m e)

small : (v : Float) → Small (quarters_of v)
unfolding quarters_of
small nan = unfold rem div in tt
small (inf s) = unfold rem div in tt
small (fin s m e) = small_size (quarters_of (fin s m e)) (quarters_size s m e)

-- what is at most a whole number rounds to at most that
pub whole_le : (b A D : ℕ) → 0 < D → A * 1 ≤ b * D → (2 * A + D) / (2 * D) ≤ b
whole_le b A D P h = below ((div-lt_iff_lt-mul (mul-pos (lit< tt) P)).1 (omega arith))
  where
    below : {n : ℕ} → n < suc b → n ≤ b
    below h = omega arith

pub counted_below : (v : Float) → lt (quarters_of v) (bits 0) ≡ true → Counted (neg (quarters_of v))
counted_below v t = go (quarters_of v) (small v) t
  where
    go : (y : Float) → Small y → lt y (bits 0) ≡ true → Counted (neg y)
    go nan h t = absurd (true≢false (sym t ∙ (unfold lt in refl)))
    go (inf s) h t = absurd h
    go (fin false m e) h t = absurd (true≢false (sym t ∙ (unfold lt of_bits in le-ltb (m * up e * 1) (0 * down e) (omega arith))))
    go (fin true m e) h t = unfold neg lt of_bits whole_of in (refl, le-ltb (m * up e * 1) (0 * down e) (omega arith), whole_le 4 (m * up e) (down e) (down_pos e) h)

pub counted_above : (v : Float) → lt (bits 0) (quarters_of v) ≡ true → Counted (quarters_of v)
counted_above v t = go (quarters_of v) (small v) t
  where
    go : (y : Float) → Small y → lt (bits 0) y ≡ true → Counted y
    go nan h t = absurd (true≢false (sym t ∙ (unfold lt of_bits in refl)))
    go (inf s) h t = absurd h
    go (fin true m e) h t = absurd (true≢false (sym t ∙ (unfold lt of_bits in refl)))
    go (fin false m e) h t = unfold lt of_bits whole_of in (refl, le-ltb (m * up e * 1) (0 * down e) (omega arith), whole_le 4 (m * up e) (down e) (down_pos e) h)

-- ---- what the code works out in each arm: the quadrant, and y rounded

below : (y : Float) → Small y → lt y (bits 0) ≡ true
    → ((4 - whole_of (neg y) % 4) % 4 ≡ quadrant_of y) × (neg (of_int binary64 (pos (whole_of (neg y)))) ≡ round_of y)
unfolding lt of_bits neg whole_of quadrant_of round_of of_int
below nan h t = absurd (true≢false (sym t))
below (inf s) h t = absurd h
below (fin false m e) h t = absurd (true≢false (sym t ∙ le-ltb (m * up e * 1) (0 * down e) (omega arith)))
below (fin true m e) h t = (refl, neg_round binary64 false (whole_of (fin true m e)) 1)

above : (y : Float) → Small y → lt (bits 0) y ≡ true
    → (whole_of y % 4 ≡ quadrant_of y) × (of_int binary64 (pos (whole_of y)) ≡ round_of y)
unfolding lt of_bits quadrant_of round_of of_int
above nan h t = absurd (true≢false (sym t))
above (inf s) h t = absurd h
above (fin true m e) h t = absurd (true≢false (sym t))
above (fin false m e) h t = (refl, refl)

AtZero : Float → Type 0
AtZero y = (0 ≡ quadrant_of y) × (y ≡ round_of y)

zero_at : (s : Bool) → AtZero (fin s zero (pos 0))
unfolding AtZero quadrant_of whole_of round_of round
zero_at false = (refl, refl)
zero_at true = (refl, refl)

at_zero : (s : Bool) (m : ℕ) (e : ℤ) → T (fits binary64 (fin s m e)) → m * up e ≤ 0 → AtZero (fin s m e)
unfolding fits
at_zero s zero e f h = subst (λ (x : ℤ). AtZero (fin s zero x)) (sym (flat e (eqb→eq (up e * down e) 1 f))) (zero_at s)
at_zero s (suc m) e f h = absurd (lt_irrefl 0 (lt_of_lt_of_le (mul-pos (zero-lt-suc m) (up_pos e)) h))

level : (y : Float) → T (fits binary64 y) → lt y (bits 0) ≡ false → lt (bits 0) y ≡ false
    → (0 ≡ quadrant_of y) × (y ≡ round_of y)
unfolding lt of_bits AtZero
level nan f p q = unfold quadrant_of round_of in (refl, refl)
level (inf true) f p q = absurd (true≢false p)
level (inf false) f p q = absurd (true≢false q)
level (fin false m e) f p q = at_zero false m e f (omega (arith, ltb-false (0 * down e) (m * up e * 1) q))
level (fin true m e) f p q = at_zero true m e f (omega (arith, ltb-false 0 (m * up e * 1 + 0 * down e) p))

-- ---- the code's three arms, for k steps

-- the quadrant q and the rounded quarters n are v's
unfoldable pub Turned : Float → ℕ → Float → Type 0
Turned v q n = (q ≡ quadrant_of (quarters_of v)) × (v ⊛ full ⊖ n ⊗ quarter ≡ rest_of v)

turned : (v : Float) (q : ℕ) (n : Float) → (q ≡ quadrant_of (quarters_of v)) × (n ≡ round_of (quarters_of v)) → Turned v q n
unfolding Turned rest_of
turned v q n h = (h.0, ap (λ (x : Float). v ⊛ full ⊖ x ⊗ quarter) h.1)

pub arm_below : (v : Float) (k : ℕ) → lt (quarters_of v) (bits 0) ≡ true → k ≡ whole_of (neg (quarters_of v))
    → Turned v ((4 - k % 4) % 4) (neg (of_int binary64 (pos k)))
arm_below v k t e = rw e (turned v _ _ (below (quarters_of v) (small v) t))

pub arm_above : (v : Float) (k : ℕ) → lt (bits 0) (quarters_of v) ≡ true → k ≡ whole_of (quarters_of v)
    → Turned v (k % 4) (of_int binary64 (pos k))
arm_above v k t e = rw e (turned v _ _ (above (quarters_of v) (small v) t))

pub arm_zero : (v : Float) → lt (quarters_of v) (bits 0) ≡ false → lt (bits 0) (quarters_of v) ≡ false
    → Turned v 0 (quarters_of v)
arm_zero v p q = turned v 0 (quarters_of v) (level (quarters_of v) (unfold quarters_of in div-fits binary64 (v ⊛ full) quarter) p q)

-- ---- sine and cosine: where v is not finite, all comes out as NaN by itself

pub sin_law : (v : Float) → sin_at (quadrant_of (quarters_of v)) (sin_poly (rest_of v)) (cos_poly (rest_of v)) ≡ sin_of v
unfolding sin_of one
sin_law nan = unfold quadrant_of quarters_of sin_at rest_of sin_poly cos_poly held_of rem div sub mul add neg lt of_bits in refl
sin_law (inf s) = unfold quadrant_of quarters_of sin_at rest_of sin_poly cos_poly held_of rem div sub mul add neg lt of_bits in refl
sin_law (fin s m e) = refl

pub cos_law : (v : Float) → cos_at (quadrant_of (quarters_of v)) (sin_poly (rest_of v)) (cos_poly (rest_of v)) ≡ cos_of v
unfolding cos_of cosine_term one
cos_law nan = unfold quadrant_of quarters_of cos_at rest_of sin_poly cos_poly held_of rem div sub mul add neg lt of_bits in refl
cos_law (inf s) = unfold quadrant_of quarters_of cos_at rest_of sin_poly cos_poly held_of rem div sub mul add neg lt of_bits in refl
cos_law (fin s m e) = refl

pub quadrant_lt : (y : Float) → quadrant_of y < 4
unfolding quadrant_of
quadrant_lt nan = lit< tt
quadrant_lt (inf s) = lit< tt
quadrant_lt (fin false m e) = mod-lt (whole_of (fin false m e)) (lit< tt)
quadrant_lt (fin true m e) = mod-lt (4 - whole_of (fin true m e) % 4) (lit< tt)

-- cosine is sine a quarter further
pub next_quadrant : (q : ℕ) (s c : Float) → q < 4 → sin_at ((q + 1) % 4) s c ≡ cos_at q s c
unfolding sin_at cos_at
next_quadrant zero s c h = refl
next_quadrant (suc zero) s c h = refl
next_quadrant (suc (suc zero)) s c h = refl
next_quadrant (suc (suc (suc zero))) s c h = refl
next_quadrant (suc (suc (suc (suc k)))) s c h = absurd (omega arith)

-- sine and cosine from what each step of the code gives
pub joined : (v : Float) (q : ℕ) (r s c x y : Float) → q ≡ quadrant_of (quarters_of v) → r ≡ rest_of v → s ≡ sin_poly r → c ≡ cos_poly r
    → x ≡ sin_at q s c → y ≡ cos_at q s c → (x ≡ sin_of v) × (y ≡ cos_of v)
joined v q r s c x y a b d e f g = (simp (f, d, e, a, b) (sin_law v), simp (g, d, e, a, b) (cos_law v))

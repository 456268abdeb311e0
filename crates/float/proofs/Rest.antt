-- v % FULL in integers, for a v from FULL up to 8192. Assumes nothing.
use Rattle.std.proofs.Common.{◌≡◌, ℕ, suc, ◌+◌, ◌-◌, ◌*◌, ◌%◌, ◌^◌, ◌<◌, ◌≤◌, Bool, true, false, ◌&&◌, ◌||◌, T, eqb, ltb, ℤ, pos, negsuc, sym, refl, ap, ◌∙◌, subst, true≢false, le_trans, lt_trans, le_of_eq, lt_of_lt_of_le, add-zero, le_of_lt, mul-le-mul_right, mod-lt, mul_assoc, lt_of_mul-lt-mul_right, mul-lt-mul_of_pos_right, mul-pos, one-mul, lt_of_not-le, mul-one, mul_right_comm, not-le_of_lt, div-one, mul-div_cancel, arith, lit<, lit≤, eqb→eq, ltb→lt, lt→ltb, pow_mono, pow-add, ltb-true}
use native.Mathlib.Nat.{mul-mod_left, eq_of_mul-eq-mul_right}
use lib.Arith.{mod-mul}
use lib.Ieee.{Float, nan, inf, fin, binary64, up, down, lt, le, of_bits, fits, round, rem, mul, of_int, to_unsigned}
use lib.Ieee.Fits.{down_pos}
use lib.Ieee.Exact.{HasValue}
use lib.Ieee.Back.{round_whole}
use lib.Ieee.Scale.{round_same}
use Rattle.float.specs.Constant.{decimal}
use Rattle.float.specs.Ops.{bits, ◌⊛◌, ◌⊗◌}
use Rattle.float.specs.Trig.{full}
use Rattle.float.proofs.Own.{few, scaled}
use Rattle.float.proofs.Saturate.{cut_value}

-- ---- v = m × 2 ^ e, as A / D
abbrev Range : ℕ → ℕ → Type 0
Range A D = (884279719003555 * D ≤ A * 2 ^ 47) × (A < 8192 * D)

-- 2 ^ 50 × v is whole: m × 2 ^ j
Whole : ℕ → ℤ → Type 0
Whole m e = (j : ℕ) × (up e * 2 ^ 50 ≡ 2 ^ j * down e)

-- of a v that is 4 at least and has 53 digits
whole : (m : ℕ) (e : ℤ) → m < 2 ^ 53 → 4 * down e ≤ m * up e → Whole m e
unfolding Whole
whole m (pos a) h k = (a + 50, sym (pow-add 2 a 50) ∙ sym (mul-one (2 ^ (a + 50))))
whole m (negsuc a) h k =
    let p : 2 ^ (suc a + 2) ≡ 2 ^ suc a * 4 = pow-add 2 (suc a) 2 in
    let l : suc a + 2 < 53 = lt_of_not-le (λ (g : 53 ≤ suc a + 2). not-le_of_lt h (le_trans (pow_mono g) (omega (arith, p)))) in
    let q : 50 - suc a + suc a ≡ 50 = omega arith in
    (50 - suc a, one-mul (2 ^ 50) ∙ ap (λ (n : ℕ). 2 ^ n) (sym q) ∙ pow-add 2 (50 - suc a) (suc a))

-- ---- 2 ^ 50 × v as a float, and cut to a whole number
Times : ℕ → ℤ → ℕ → Type 0
Times m e x = (m * up e * 2 ^ 50 ≡ x * down e) × (x < 2 ^ 63) × HasValue (fin false m e ⊗ bits 0x4310000000000000) false x 1

cut_exact : (a : Float) (x : ℕ) → x < 2 ^ 63 → HasValue a false x 1 → to_unsigned 64 a ≡ x
cut_exact a x h v = cut_value a x 1 (lit< tt) (lt_trans h (lit< tt)) v ∙ div-one x

pub same_mod : (a b c d : ℕ) → a ≡ b → c ≡ d → a % c ≡ b % d
same_mod a b c d p q = cc

pub mod_scale : (a b c : ℕ) → 0 < b → 0 < c → (a * c) % (b * c) ≡ (a % b) * c
mod_scale a b c B C =
    mod-mul (a * c) B C ∙ ap (λ (n : ℕ). (n % b) * c + a * c % c) (mul-div_cancel a C)
    ∙ ap (λ (n : ℕ). (a % b) * c + n) (mul-mod_left a c) ∙ add-zero ((a % b) * c)

-- the two remainders are the same fraction
same_rest : (A D X : ℕ) → 0 < D → A * 2 ^ 50 ≡ X * D
    → (A * 2 ^ 47 % (884279719003555 * D)) * 2 ^ 50 ≡ (X % 7074237752028440) * (D * 2 ^ 47)
same_rest A D X P h =
    let l : (A * 2 ^ 47 % (884279719003555 * D)) * 8 ≡ (X % 7074237752028440) * D =
    sym (mod_scale (A * 2 ^ 47) (884279719003555 * D) 8 (mul-pos (lit< tt) P) (lit< tt))
    ∙ same_mod (A * 2 ^ 47 * 8) (X * D) (884279719003555 * D * 8) (7074237752028440 * D) (omega (arith, h)) (omega arith)
    ∙ mod_scale X 7074237752028440 D (lit< tt) P in
    lift (A * 2 ^ 47 % (884279719003555 * D)) (X % 7074237752028440) l
  where
    lift : (u w : ℕ) → u * 8 ≡ w * D → u * 2 ^ 50 ≡ w * (D * 2 ^ 47)
    lift u w p = let q : u * 2 ^ 50 ≡ w * D * 2 ^ 47 = omega (arith, p) in q ∙ mul_assoc w D (2 ^ 47)

to_whole : (y : Float) (num D x : ℕ) → 0 < D → num ≡ x * D → HasValue y false num D → HasValue y false x 1
to_whole nan num D x P h v = absurd v
to_whole (inf s) num D x P h v = absurd v
to_whole (fin s m e) num D x P h v = (
  v.0,
  eq_of_mul-eq-mul_right D P (m * up e * 1) (x * down e)
      (ap (λ (n : ℕ). n * D) (mul-one (m * up e)) ∙ v.1 ∙ ap (λ (n : ℕ). n * down e) h ∙ mul_right_comm x D (down e)),
)

times : (m : ℕ) (e : ℤ) → T (fits binary64 (fin false m e)) → Range (m * up e) (down e) → (x : ℕ) × Times m e x
unfolding Times Whole mul of_bits
times m e f r =
    let D = down e in
    let w : Whole m e = whole m e (few false m e f).0 (omega (arith, r.0)) in
    let j = w.0 in
    let x = m * 2 ^ j in
    let p : m * up e * 2 ^ 50 ≡ x * D = mul_assoc m (up e) (2 ^ 50) ∙ ap (λ (n : ℕ). m * n) w.1 ∙ sym (mul_assoc m (2 ^ j) D) in
    let s : m * up e * 2 ^ 50 < 2 ^ 63 * D = omega (arith, r.1) in
    let t : x < 2 ^ 63 = lt_of_mul-lt-mul_right D (subst (λ (n : ℕ). n < 2 ^ 63 * D) p s) in
    (x, (p, t, to_whole (fin false m e ⊗ bits 0x4310000000000000) (m * up e * 2 ^ 50) D x (down_pos e) p (scaled m e 50 f (lt_of_lt_of_le s (mul-le-mul_right D (lit≤ tt))))))

-- ---- back from a whole number r of 2 ^ -50
scaled_value : (y : Float) (r : ℕ) → HasValue y false r 1 → y ⊗ bits 0x3cd0000000000000 ≡ round binary64 false r (2 ^ 50)
unfolding mul of_bits
scaled_value nan r v = absurd v
scaled_value (inf s) r v = absurd v
scaled_value (fin true m e) r v = absurd (true≢false v.0)
scaled_value (fin false m e) r v =
    round_same binary64 false (m * up e * 1) (down e * 2 ^ 50) r (2 ^ 50) (mul-pos (down_pos e) (lit< tt)) (lit< tt)
    (ap (λ (n : ℕ). n * 2 ^ 50) v.1 ∙ mul_assoc r (down e) (2 ^ 50))

scaled_back : (r : ℕ) → r ≤ 2 ^ 53 → of_int binary64 (pos r) ⊗ bits 0x3cd0000000000000 ≡ round binary64 false r (2 ^ 50)
unfolding of_int
scaled_back r h = scaled_value (round binary64 false r 1) r (round_whole binary64 false r h)

-- ---- the law, for a finite v
fin_law : (m : ℕ) (e : ℤ) → T (fits binary64 (fin false m e)) → Range (m * up e) (down e)
    → of_int binary64 (pos (to_unsigned 64 (fin false m e ⊗ bits 0x4310000000000000) % 7074237752028440)) ⊗ bits 0x3cd0000000000000 ≡ fin false m e ⊛ full
unfolding rem of_bits Times full
fin_law m e f r =
    let t = times m e f r in
    let x = t.0 in
    ap (λ (n : ℕ). of_int binary64 (pos (n % 7074237752028440)) ⊗ bits 0x3cd0000000000000) (cut_exact (fin false m e ⊗ bits 0x4310000000000000) x t.1.1 t.1.2)
    ∙ scaled_back (x % 7074237752028440) (le_of_lt (lt_trans (mod-lt x (lit< tt)) (lit< tt)))
    ∙ round_same binary64 false (x % 7074237752028440) (2 ^ 50) (m * up e * 2 ^ 47 % (884279719003555 * down e)) (down e * 2 ^ 47) (lit< tt) (mul-pos (down_pos e) (lit< tt))
    (sym (same_rest (m * up e) (down e) x (down_pos e) t.1.0))

-- ---- what the code's two tests say
or_case : (a b : ℕ) (x y : Bool) → (T x → a < b) → (T y → a ≡ b) → (x || (y && true)) ≡ true → a ≤ b
or_case a b true y p q t = le_of_lt (p tt)
or_case a b false true p q t = le_of_eq (q tt)
or_case a b false false p q t = absurd (true≢false (sym t))

and_zero : (a : ℕ) (x y : Bool) → (T y → a ≡ 0) → (x && y) ≡ true → a ≡ 0
and_zero a true true p t = p tt
and_zero a true false p t = absurd (true≢false (sym t))
and_zero a false y p t = absurd (true≢false (sym t))

pub wide_bits : bits 0x40c0000000000000 ≡ decimal 8192 0
unfolding of_bits round
wide_bits = refl

abbrev Tested : Float → Type 0
Tested v = (le full v ≡ true) × (lt v (decimal 8192 0) ≡ true)

range : (m : ℕ) (e : ℤ) → Tested (fin false m e) → Range (m * up e) (down e)
unfolding le lt of_bits full round
range m e t =
    let a = 884279719003555 * down e in
    let b = m * up e * 2 ^ 47 in
    (or_case a b (ltb a b) (eqb a b) (ltb→lt a b) (eqb→eq a b) t.0, omega (arith, ltb-true (m * up e * 1) (8192 * down e) t.1))

no_minus : (m : ℕ) (e : ℤ) → le full (fin true m e) ≡ true → ⊥
unfolding le of_bits full round
no_minus m e t =
    let a = 884279719003555 * down e in
    let z : a ≡ 0 = and_zero a (eqb a (m * up e * 2 ^ 47)) (eqb a 0) (eqb→eq a 0) t in
    omega (arith, down_pos e, z)

pub rest_law : (v : Float) → T (fits binary64 v) → Tested v
    → of_int binary64 (pos (to_unsigned 64 (v ⊗ bits 0x4310000000000000) % 7074237752028440)) ⊗ bits 0x3cd0000000000000 ≡ v ⊛ full
unfolding full round
rest_law nan f t = absurd (true≢false (sym t.1 ∙ (unfold lt in refl)))
rest_law (inf true) f t = absurd (true≢false (sym t.0 ∙ (unfold le of_bits in refl)))
rest_law (inf false) f t = absurd (true≢false (sym t.1 ∙ (unfold lt of_bits in refl)))
rest_law (fin true m e) f t = absurd (no_minus m e t.0)
rest_law (fin false m e) f t = fin_law m e f (range m e t)

-- ---- 2 ^ 50 × v is in the range of the cut
abbrev InRange : Float → Type 0
InRange a = T (lt (fin true 1 (pos 0)) a) × T (lt a (fin false 1 (pos 64)))

value_in : (a : Float) (x : ℕ) → x < 2 ^ 63 → HasValue a false x 1 → InRange a
unfolding lt
value_in nan x h v = absurd v
value_in (inf s) x h v = absurd v
value_in (fin true m e) x h v = absurd (true≢false v.0)
value_in (fin false m e) x h v =
    let d : 0 < down e = down_pos e in
    let l : m * up e * 1 < 2 ^ 64 * down e =
    subst (λ (n : ℕ). n < 2 ^ 64 * down e) (sym v.1) (mul-lt-mul_of_pos_right (lt_trans h (lit< tt)) d) in
    (lt→ltb 0 (1 * down e + m * up e * 1) (omega arith), lt→ltb (m * up e * 1) (1 * 2 ^ 64 * down e) (omega arith))

pub in_range : (v : Float) → T (fits binary64 v) → Tested v → InRange (v ⊗ bits 0x4310000000000000)
unfolding Times full round
in_range nan f t = absurd (true≢false (sym t.1 ∙ (unfold lt in refl)))
in_range (inf true) f t = absurd (true≢false (sym t.0 ∙ (unfold le of_bits in refl)))
in_range (inf false) f t = absurd (true≢false (sym t.1 ∙ (unfold lt of_bits in refl)))
in_range (fin true m e) f t = absurd (no_minus m e t.0)
in_range (fin false m e) f t =
    let w = times m e f (range m e t) in
    value_in (fin false m e ⊗ bits 0x4310000000000000) w.0 w.1.1 w.1.2

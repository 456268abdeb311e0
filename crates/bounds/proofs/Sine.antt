-- Sine and cosine of a finite number are finite and at most 1 in size. What the polynomials come to is bounded by powers of two, and coarsely: it only has to be
-- finite, then `held_of` does the rest. Assumes nothing.
use mathlib.Core.Path.{◌≡◌, refl}
use mathlib.Core.Bool.{Bool, true, false, cond}
use mathlib.Core.List.{List, [], ◌∷◌}
use Prim.Native.Nat.{ℕ, zero, suc, ◌+◌, ◌*◌, ◌/◌, ◌^◌, ◌≤◌, ◌<◌, zero-le}
use native.Mathlib.Nat.{mul-pos, zero-lt-suc}
use native.Mathlib.Omega.{arith}
use lib.IntN.{ℤ, pos}
use lib.Dec.{T, ltb, lit<, lit≤}
use lib.Ieee.{Float, nan, inf, fin, binary64, up, down, neg, lt, of_bits, round}
use lib.Ieee.Fits.{down_pos}
use borrow.Author.Tests.{ltb-false}
use Rattle.float.specs.Ops.{◌⊗◌, ◌⊛◌, one, whole_of, round_of}
use Rattle.float.specs.Trig.{full, quarter, horner, factorial, sine_term, cosine_term, nine, sin_poly, cos_poly, quarters_of, quadrant_of, rest_of, held_of, pick, is_finite, sin_at, cos_at, sin_of, cos_of}
use Rattle.float.proofs.Rounding.{Size, Stays, round_stays}
use Rattle.float.proofs.Angle.{turn_within, quarters_size, whole_le}
use Rattle.bounds.proofs.Size.{size_up, neg_size, Below, below_up, mul_below, add_below, sub_below, stays_power}

-- ---- rounded to a whole number, at most a whole number
pub round_size : (b : ℕ) (x : Float) → Size b 1 x → Stays b 1 → Size b 1 (round_of x)
unfolding round_of whole_of
round_size b nan w st = absurd w.1
round_size b (inf s) w st = absurd w.1
round_size b (fin s m e) w st =
    (s, round_stays s ((2 * (m * up e) + down e) / (2 * down e)) 1 b 1 (lit< tt) (lit< tt) (times (whole_le b (m * up e) (down e) (down_pos e) w.1.1)) st)
  where
    times : {n : ℕ} → n ≤ b → n * 1 ≤ b * 1
    times h = omega arith

-- ---- the rest within a quarter turn: 2 ^ 3 for the rest of a turn and for its quarters, so 2 ^ 4
turn_below : (s : Bool) (m : ℕ) (e : ℤ) → Below 3 (fin s m e ⊛ full)
turn_below s m e = size_up 884279719003555 (2 ^ 47) (2 ^ 3) 1 (fin s m e ⊛ full) (lit< tt) (lit≤ tt) (s, turn_within s m e)

quarter_below : Below 1 quarter
unfolding quarter round
quarter_below = (false, (refl, lit≤ tt))

rest_below : (s : Bool) (m : ℕ) (e : ℤ) → Below 4 (rest_of (fin s m e))
unfolding rest_of
rest_below s m e =
    let z = fin s m e ⊛ full in
    let y = quarters_of (fin s m e) in
    sub_below 3 z (round_of y ⊗ quarter) (lit< tt) (turn_below s m e) (mul_below 2 1 (round_of y) quarter (lit< tt) (round_size (2 ^ 2) y (quarters_size s m e) (stays_power 2 (lit< tt))) quarter_below)

-- ---- the polynomials: their terms are at most 1, so each step multiplies the bound by that of w and doubles it
abbrev Terms : List Float → Type 0
Terms [] = Unit
Terms (c ∷ cs) = Below 0 c × Terms cs

-- the power of two for so many terms
abbrev reach : ℕ → List Float → ℕ
reach k [] = 0
reach k (c ∷ cs) = suc (k + reach k cs)

horner_below : (k : ℕ) (w : Float) (cs : List Float) → Below k w → Terms cs → reach k cs < 1024 → Below (reach k cs) (horner w cs)
horner_below k w [] h t r = unfold of_bits in (false, (refl, lit≤ tt))
horner_below k w (c ∷ []) h t r = below_up 0 (suc (k + 0)) c zero-le t.0
horner_below k w (c ∷ d ∷ cs) h t r =
    let n = reach k (d ∷ cs) in
    let l : k + n < 1024 = less (k + n) r in
    add_below (k + n) c (w ⊗ horner w (d ∷ cs)) r (below_up 0 (k + n) c zero-le t.0)
    (mul_below k n w (horner w (d ∷ cs)) l h (horner_below k w (d ∷ cs) h t.1 (right k n l)))
  where
    less : (i : ℕ) → suc i < 1024 → i < 1024
    less i h = omega arith

    right : (i j : ℕ) → i + j < 1024 → j < 1024
    right i j h = omega arith

factorial_pos : (k : ℕ) → 0 < factorial k
unfolding factorial
factorial_pos zero = lit< tt
factorial_pos (suc k) = mul-pos (zero-lt-suc k) (factorial_pos k)

-- 1 / n is at most 1
part_below : (s : Bool) (n : ℕ) → 0 < n → Below 0 (round binary64 s 1 n)
part_below s n h = (s, round_stays s 1 n 1 1 h (lit< tt) (omega arith) (stays_power 0 (lit< tt)))

nine_below : (c : ℕ → Float) → ((k : ℕ) → Below 0 (c k)) → Terms (nine c)
nine_below c h = (h 0, (h 1, (h 2, (h 3, (h 4, (h 5, (h 6, (h 7, (h 8, tt)))))))))

sine_terms : Terms (nine sine_term)
unfolding sine_term
sine_terms = nine_below sine_term (λ (k : ℕ). part_below _ (factorial (2 * k + 1)) (factorial_pos (2 * k + 1)))

cosine_terms : Terms (nine cosine_term)
unfolding cosine_term
cosine_terms = nine_below cosine_term (λ (k : ℕ). part_below _ (factorial (2 * k)) (factorial_pos (2 * k)))

sin_poly_below : (r : Float) → Below 4 r → Below 85 (sin_poly r)
unfolding sin_poly
sin_poly_below r h = mul_below 4 81 r (horner (r ⊗ r) (nine sine_term)) (lit< tt) h (horner_below 8 (r ⊗ r) (nine sine_term) (mul_below 4 4 r r (lit< tt) h h) sine_terms (lit< tt))

cos_poly_below : (r : Float) → Below 4 r → Below 85 (cos_poly r)
unfolding cos_poly
cos_poly_below r h = below_up 81 85 (cos_poly r) (lit≤ tt) (horner_below 8 (r ⊗ r) (nine cosine_term) (mul_below 4 4 r r (lit< tt) h h) cosine_terms (lit< tt))

-- ---- held to [−1, 1]
held_size : (b d : ℕ) (x : Float) → Size b d x → Size 1 1 (held_of x)
unfolding held_of lt neg one round
held_size b d nan w = absurd w.1
held_size b d (inf s) w = absurd w.1
held_size b d (fin false m e) w = go (ltb (1 * down e) (m * up e * 1)) (ltb-false (1 * down e) (m * up e * 1))
  where
    go : (t : Bool) → (t ≡ false → m * up e * 1 ≤ 1 * down e) → Size 1 1 (cond t (fin false 1 (pos 0)) (fin false m e))
    go true h = (false, (refl, lit≤ tt))
    go false h = (false, (refl, h refl))
held_size b d (fin true m e) w = go (ltb (1 * down e) (m * up e * 1)) (ltb-false (1 * down e) (m * up e * 1))
  where
    go : (t : Bool) → (t ≡ false → m * up e * 1 ≤ 1 * down e) → Size 1 1 (cond t (fin true 1 (pos 0)) (fin true m e))
    go true h = (true, (refl, lit≤ tt))
    go false h = (true, (refl, h refl))

pick_size : (q b d : ℕ) (w x y z : Float) → Size b d w → Size b d x → Size b d y → Size b d z → Size b d (pick q w x y z)
pick_size zero b d w x y z h i j k = h
pick_size (suc zero) b d w x y z h i j k = i
pick_size (suc (suc zero)) b d w x y z h i j k = j
pick_size (suc (suc (suc q))) b d w x y z h i j k = k

pub sin_size : (v : Float) → T (is_finite v) → Size 1 1 (sin_of v)
unfolding sin_of sin_at
sin_size nan f = absurd f
sin_size (inf s) f = absurd f
sin_size (fin s m e) f =
    let r = rest_of (fin s m e) in
    let R = rest_below s m e in
    let S = sin_poly_below r R in
    let C = cos_poly_below r R in
    held_size (2 ^ 85) 1 _ (pick_size (quadrant_of (quarters_of (fin s m e))) (2 ^ 85) 1 (sin_poly r) (cos_poly r) (neg (sin_poly r)) (neg (cos_poly r)) S C (neg_size (2 ^ 85) 1 (sin_poly r) S) (neg_size (2 ^ 85) 1 (cos_poly r) C))

pub cos_size : (v : Float) → T (is_finite v) → Size 1 1 (cos_of v)
unfolding cos_of cos_at
cos_size nan f = absurd f
cos_size (inf s) f = absurd f
cos_size (fin s m e) f =
    let r = rest_of (fin s m e) in
    let R = rest_below s m e in
    let S = sin_poly_below r R in
    let C = cos_poly_below r R in
    held_size (2 ^ 85) 1 _ (pick_size (quadrant_of (quarters_of (fin s m e))) (2 ^ 85) 1 (cos_poly r) (neg (sin_poly r)) (neg (cos_poly r)) (sin_poly r) C (neg_size (2 ^ 85) 1 (sin_poly r) S) (neg_size (2 ^ 85) 1 (cos_poly r) C) S)

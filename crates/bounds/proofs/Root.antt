-- The square root keeps bounds that are squares. P counts the root in units of 2 ^ -1075, of which `root_of` rounds a whole number and a last digit
-- for the rest. Assumes nothing.
use mathlib.Core.Path.{◌≡◌, refl, ap, ◌∙◌}
use mathlib.Core.Logic.{inl, inr}
use mathlib.Core.Bool.{Bool, true, false, true≢false, cond}
use Prim.Native.Nat.{ℕ, zero, suc, ◌+◌, ◌*◌, ◌/◌, ◌^◌, ◌≤◌, ◌<◌}
use native.Mathlib.Nat.{lt_of_not-le, not-le_of_lt, le_trans, le_of_eq, lt_of_le_of_lt, lt_of_lt_of_le, lt_irrefl, mul-le-mul, mul-le-mul_right, mul_right_comm, mul_comm, mul-pos, div-le_of_le-mul, le-div_iff_mul-le, le_of_mul-le-mul_right, eq-or-lt_of_le}
use native.Mathlib.Omega.{arith}
use lib.Dec.{eqb, lit<}
use lib.Ieee.{Float, nan, inf, fin, up, down}
use lib.Ieee.Fits.{down_pos}
use lib.Ieee.Positive.{first_pos}
use borrow.Author.Tests.{eq-eqb}
use Rattle.float.proofs.Rounding.{Within, Stays, round_stays}
use Rattle.roots.specs.Root.{isqrt, root_of, sqrt_of}
use Rattle.roots.proofs.Whole.{isqrt_whole}
use Rattle.bounds.proofs.Bounds.{Least, round_least}

square_lt : (a b : ℕ) → a * a < b * b → a < b
square_lt a b h = lt_of_not-le (λ (g : b ≤ a). not-le_of_lt h (mul-le-mul g g))

-- the whole part k and the digit for the rest: at most 2 × P where n is at most P × P, at least that where n is at least
at_most : (n k P : ℕ) → k * k ≤ n → n ≤ P * P → 2 * k + cond (eqb (k * k) n) 0 1 ≤ 2 * P
at_most n k P h g = elim (eq-or-lt_of_le (below (square_lt k (suc P) (lt_of_le_of_lt (le_trans h g) (grows P))))) [
  | inl e ↦ rw (eq-eqb (k * k) n (between (k * k) n (P * P) h g (ap (λ (x : ℕ). x * x) e))) (whole e)
  | inr l ↦ some (eqb (k * k) n) l
]
  where
    grows : (P : ℕ) → P * P < suc P * suc P
    grows P = omega arith

    below : k < suc P → k ≤ P
    below l = omega arith

    between : (a b c : ℕ) → a ≤ b → b ≤ c → a ≡ c → a ≡ b
    between a b c h g e = omega arith

    whole : k ≡ P → 2 * k + 0 ≤ 2 * P
    whole e = omega arith

    some : (t : Bool) → k < P → 2 * k + cond t 0 1 ≤ 2 * P
    some true l = omega arith
    some false l = omega arith

at_least : (n k P x : ℕ) → n < suc k * suc k → P * P ≤ n → 2 * P ≤ 2 * k + x
at_least n k P x h g = over (square_lt P (suc k) (lt_of_le_of_lt g h))
  where
    over : P < suc k → 2 * P ≤ 2 * k + x
    over l = omega arith

-- A / D × 4 ^ 1075 cut to a whole number, where A / D is at most b / d, and at least
cut_up : (A D Q R b d : ℕ) → 0 < D → 0 < d → A * d ≤ b * D → b * Q ≤ R * d → A * Q / D ≤ R
cut_up A D Q R b d D0 d0 h g =
    div-le_of_le-mul D (le_of_mul-le-mul_right
    (le_trans (le_of_eq (mul_right_comm A Q d)) (le_trans (mul-le-mul_right Q h)
    (le_trans (le_of_eq (mul_right_comm b D Q)) (le_trans (mul-le-mul_right D g) (le_of_eq (mul_right_comm R d D ∙ ap (λ (x : ℕ). x * d) (mul_comm R D))))))) d0)

cut_down : (A D Q R b d : ℕ) → 0 < D → 0 < d → b * D ≤ A * d → R * d ≤ b * Q → R ≤ A * Q / D
cut_down A D Q R b d D0 d0 h g =
    (le-div_iff_mul-le D0).1 (le_of_mul-le-mul_right
    (le_trans (le_of_eq (mul_right_comm R D d)) (le_trans (mul-le-mul_right D g)
    (le_trans (le_of_eq (mul_right_comm b Q D)) (le_trans (mul-le-mul_right Q h) (le_of_eq (mul_right_comm A d Q)))))) d0)

-- ---- the root of at most b / d is at most p / q, where b / d is at most (P × 2 ^ -1075) squared, and that at most p / q
root_up : (n P p q : ℕ) → 0 < q → n ≤ P * P → 2 * P * q ≤ p * 2 ^ 1076 → Stays p q → Within false p q (root_of n)
unfolding root_of
root_up n P p q Q h g st =
    let k = isqrt n in
    round_stays false (2 * k + cond (eqb (k * k) n) 0 1) (2 ^ 1076) p q (lit< tt) Q (le_trans (mul-le-mul_right q (at_most n k P (isqrt_whole n).0 h)) g) st

pub sqrt_up : (b d P p q : ℕ) (x : Float) → 0 < d → 0 < q → b * 4 ^ 1075 ≤ P * P * d → 2 * P * q ≤ p * 2 ^ 1076 → Stays p q → Within false b d x → Within false p q (sqrt_of x)
unfolding sqrt_of
sqrt_up b d P p q nan D Q h g st w = absurd w
sqrt_up b d P p q (inf s) D Q h g st w = absurd w
sqrt_up b d P p q (fin true m e) D Q h g st w = absurd (true≢false w.0)
sqrt_up b d P p q (fin false zero e) D Q h g st w = (refl, omega arith)
sqrt_up b d P p q (fin false (suc m) e) D Q h g st w =
    root_up (suc m * up e * 4 ^ 1075 / down e) P p q Q (cut_up (suc m * up e) (down e) (4 ^ 1075) (P * P) b d (down_pos e) D w.1 h) g st

root_least : (n P p q : ℕ) → 0 < p → 0 < q → P * P ≤ n → p * 2 ^ 1076 ≤ 2 * P * q → Stays p q → Least p q (root_of n)
unfolding root_of
root_least n P p q p0 Q h g st =
    let k = isqrt n in
    let r : ℕ = cond (eqb (k * k) n) 0 1 in
    round_least (2 * k + r) (2 ^ 1076) p q (lit< tt) Q p0 (le_trans g (mul-le-mul_right q (at_least n k P r (isqrt_whole n).1 h))) st

pub sqrt_least : (a c P p q : ℕ) (x : Float) → 0 < a → 0 < c → 0 < p → 0 < q → P * P * c ≤ a * 4 ^ 1075 → p * 2 ^ 1076 ≤ 2 * P * q → Stays p q → Least a c x → Least p q (sqrt_of x)
unfolding sqrt_of
sqrt_least a c P p q nan A C p0 Q h g st w = absurd w
sqrt_least a c P p q (inf true) A C p0 Q h g st w = absurd w
sqrt_least a c P p q (inf false) A C p0 Q h g st w = tt
sqrt_least a c P p q (fin true m e) A C p0 Q h g st w = absurd w
sqrt_least a c P p q (fin false zero e) A C p0 Q h g st w =
    absurd (lt_irrefl 0 (first_pos 0 (up e) (first_pos (0 * up e) c (lt_of_lt_of_le (mul-pos A (down_pos e)) w))))
sqrt_least a c P p q (fin false (suc m) e) A C p0 Q h g st w =
    root_least (suc m * up e * 4 ^ 1075 / down e) P p q p0 Q (cut_down (suc m * up e) (down e) (4 ^ 1075) (P * P) a c (down_pos e) C w h) g st

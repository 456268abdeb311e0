-- A root's whole part with a sticky digit, and what that rounds to, for any power. `Whole.antt` has the whole parts. Assumes nothing.
use mathlib.Core.Path.{◌≡◌, sym, ap, ◌∙◌, subst}
use Prim.Native.Nat.{ℕ, suc, ◌+◌, ◌-◌, ◌*◌, ◌/◌, ◌%◌, ◌^◌, ◌≤◌, ◌<◌, compare, Ordering}
use native.Mathlib.Nat.{le_of_eq, le_antisymm, lt_of_lt_of_le, lt_of_le_of_lt, lt_of_not-le, not-le_of_lt, lt_trans, mul-pos, mul-lt-mul_of_pos_right, lt_of_mul-lt-mul_right, mul-div-mul_right, div-add-mod', mod-lt, le-div_iff_mul-le, div-lt_iff_lt-mul}
use native.Mathlib.Omega.{arith}
use mathlib.Core.Bool.{Bool, true, false, cond}
use lib.Dec.{T, eqb, eqb→eq}
use lib.Pow.{pow-add, pow_pos, pow_mono}
use lib.Ieee.{binary64, size, nearest, round}
use lib.Ieee.Digits.{size-lt, size-le}
use lib.Ieee.Nearest.{closest}
use lib.Ieee.Order.{drop}
use lib.Ieee.Scale.{grid, overflow, round_val}
use lib.Ieee.Exact.{HasValue}
use Rattle.laws.proofs.Numbers.{Cmp, cmp}

-- ---- the whole number nearest to a / b, from the two midpoints beside it
module _ (a b p : ℕ) (B : 0 < b) (lo : (2 * p + 1) * b < 2 * a) (hi : 2 * a < (2 * p + 3) * b) where
  -- 2 * a lies in [2 * w * b, (2 * w + 2) * b), in the lower or the upper half
  step : (w r : ℕ) (o : Ordering) → w * b + r ≡ a → r < b → Cmp o (r * 2) b → nearest w o ≡ suc p
  step w r Ordering.lt e l c =
      let x : 2 * p + 1 < 2 * w + 1 = lt_of_mul-lt-mul_right b (let y : 2 * a < (2 * w + 1) * b = omega arith in omega arith) in
      let z : 2 * w < 2 * p + 3 = lt_of_mul-lt-mul_right b (let y : 2 * w * b ≤ 2 * a = omega arith in omega arith) in
      omega arith
  step w r Ordering.eq e l c =
      let y : 2 * a ≡ (2 * w + 1) * b = omega arith in
      let x : 2 * p + 1 < 2 * w + 1 = lt_of_mul-lt-mul_right b (omega arith) in
      let z : 2 * w + 1 < 2 * p + 3 = lt_of_mul-lt-mul_right b (omega arith) in
      absurd (odd_between w x z)
    where
      odd_between : (w : ℕ) → 2 * p + 1 < 2 * w + 1 → 2 * w + 1 < 2 * p + 3 → ⊥
      odd_between w x z = omega arith
  step w r Ordering.gt e l c =
      let x : 2 * p + 1 < 2 * w + 2 = lt_of_mul-lt-mul_right b (let y : 2 * a < (2 * w + 2) * b = omega arith in omega arith) in
      let z : 2 * w + 1 < 2 * p + 3 = lt_of_mul-lt-mul_right b (let y : (2 * w + 1) * b < 2 * a = omega arith in omega arith) in
      omega arith

  closest_is : closest a b ≡ suc p
  closest_is = step (a / b) (a % b) (compare (a % b * 2) b) (div-add-mod' a b) (mod-lt a B) (cmp (a % b * 2) b)

-- ---- the sticky digit
-- twice k, and one more where the root has a rest
abbrev pub sticky : ℕ → Bool → ℕ
sticky k exact = 2 * k + cond exact 0 1

-- f is the power, which keeps the order, and k the whole part of n's root
module _ (f : ℕ → ℕ) (order : (a b : ℕ) → f a < f b → a < b) (n k : ℕ) (low : f k ≤ n) (high : n < f (suc k)) where
  -- h below the root
  pub under : (h : ℕ) → f h < n → 2 * h < sticky k (eqb (f k) n)
  under h l = go (eqb (f k) n) (eqb→eq (f k) n)
    where
      most : h < suc k
      most = order h (suc k) (lt_trans l high)

      go : (t : Bool) → (T t → f k ≡ n) → 2 * h < sticky k t
      go true e = let z : h < k = order h k (subst (λ (x : ℕ). f h < x) (sym (e tt)) l) in omega arith
      go false e = let z = most in omega arith

  -- g above it
  pub over : (g : ℕ) → n < f g → sticky k (eqb (f k) n) < 2 * g
  over g l = go (eqb (f k) n)
    where
      less : k < g
      less = order k g (lt_of_le_of_lt low l)

      go : (t : Bool) → sticky k t < 2 * g
      go true = let z = less in omega arith
      go false = let z = less in omega arith

  -- h not above it
  pub least : (h : ℕ) → f h ≤ n → 2 * h ≤ sticky k (eqb (f k) n)
  least h l = go (eqb (f k) n)
    where
      most : h < suc k
      most = order h (suc k) (lt_of_le_of_lt l high)

      go : (t : Bool) → 2 * h ≤ sticky k t
      go true = let z = most in omega arith
      go false = let z = most in omega arith

-- ---- the digits of w / 4
size_gt : (n j : ℕ) → 2 ^ j ≤ n → j < size n
size_gt n j h = lt_of_not-le (λ (g : size n ≤ j). not-le_of_lt (lt_of_lt_of_le (size-lt n) (pow_mono g)) h)

pub size_least : (n j : ℕ) → 2 ^ (52 + j) ≤ n → 53 + j ≤ size n
size_least n j h = next (size n) j (size_gt n (52 + j) h)
  where
    next : (z j : ℕ) → 52 + j < z → 53 + j ≤ z
    next z j h = omega arith

pub less : (j : ℕ) → 53 + j - 53 ≡ j
less j = omega arith

-- ---- w halves of 2 ^ -1075, between the midpoints beside p + 1 times 2 ^ j smallest values, and of 53 digits there
module _ (w p j : ℕ) (w_under : 2 * ((2 * p + 1) * 2 ^ j) < w) (w_over : w < 2 * ((2 * p + 3) * 2 ^ j)) (w_least : 2 ^ 52 * 2 ^ j * 4 ≤ w) (w_most : w < 2 ^ 53 * 2 ^ j * 4) where
  -- L stands for 2 ^ 1074
  module _ (L : ℕ) (LP : 0 < L) where
    quarter : w * L / (4 * L) ≡ w / 4
    quarter = mul-div-mul_right w 4 LP

    digits : size (w * L / (4 * L)) ≡ 53 + j
    digits = ap size quarter ∙ le_antisymm
        (size-le (w / 4) (53 + j) (subst (λ (x : ℕ). w / 4 < x) (sym (pow-add 2 53 j)) ((div-lt_iff_lt-mul (pow_pos 2)).1 w_most)))
        (size_least (w / 4) j (subst (λ (x : ℕ). x ≤ w / 4) (sym (pow-add 2 52 j)) ((le-div_iff_mul-le (pow_pos 2)).1 w_least)))

    dropped : drop 53 (w * L) (4 * L) ≡ j
    dropped = ap (λ (z : ℕ). z - 53) digits ∙ less j

    kept_is : closest (w * L) (4 * L * 2 ^ j) ≡ suc p
    kept_is = closest_is (w * L) (4 * L * 2 ^ j) p (mul-pos (mul-pos (pow_pos 2) LP) (pow_pos j))
        (lt_of_le_of_lt (le_of_eq (e1 (2 ^ j) L)) (lt_of_lt_of_le (mul-lt-mul_of_pos_right w_under L2) (le_of_eq (e2 w L))))
        (lt_of_le_of_lt (le_of_eq (sym (e2 w L))) (lt_of_lt_of_le (mul-lt-mul_of_pos_right w_over L2) (le_of_eq (e3 (2 ^ j) L))))
      where
        L2 : 0 < 2 * L
        L2 = omega arith

        e1 : (x l : ℕ) → (2 * p + 1) * (4 * l * x) ≡ 2 * ((2 * p + 1) * x) * (2 * l)
        e1 x l = omega arith

        e2 : (w l : ℕ) → w * (2 * l) ≡ 2 * (w * l)
        e2 w l = omega arith

        e3 : (x l : ℕ) → 2 * ((2 * p + 3) * x) * (2 * l) ≡ (2 * p + 3) * (4 * l * x)
        e3 x l = omega arith

    grid_is : closest (w * L) (4 * L * 2 ^ drop 53 (w * L) (4 * L)) * 2 ^ drop 53 (w * L) (4 * L) ≡ suc p * 2 ^ j
    grid_is = ap (λ (d : ℕ). closest (w * L) (4 * L * 2 ^ d) * 2 ^ d) dropped ∙ ap (λ (x : ℕ). x * 2 ^ j) kept_is

  pub rounds : suc p * 2 ^ j < overflow binary64 → HasValue (round binary64 false w (2 ^ 1076)) false (suc p * 2 ^ j) (2 ^ 1074)
  rounds fine =
      let e : grid binary64 w (2 ^ 1076) ≡ suc p * 2 ^ j = grid_is (2 ^ 1074) (pow_pos 1074) in
      subst (λ (x : ℕ). HasValue (round binary64 false w (2 ^ 1076)) false x (2 ^ 1074)) e
      (round_val binary64 w (2 ^ 1076) (subst (λ (x : ℕ). x < overflow binary64) (sym e) fine))

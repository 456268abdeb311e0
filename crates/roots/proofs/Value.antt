-- What a root rounds to. Where q is the whole number nearest to N's root, and has 53 binary digits, the root of N times T's power with T = 2 ^ (j + 1), in units of 2 ^ -1075,
-- rounds to q * 2 ^ j units of 2 ^ -1074, the format's smallest value. Assumes nothing.
use mathlib.Core.Path.{◌≡◌, sym, ap, ◌∙◌, subst}
use Prim.Native.Nat.{ℕ, suc, ◌+◌, ◌-◌, ◌*◌, ◌^◌, ◌≤◌, ◌<◌}
use native.Mathlib.Nat.{le_trans, le_of_eq, lt_of_lt_of_le, lt_of_le_of_lt, mul-le-mul_right, mul-lt-mul_of_pos_right, pow-succ'}
use native.Mathlib.Omega.{arith}
use mathlib.Core.Bool.{false}
use lib.Dec.{eqb}
use lib.Ieee.{binary64}
use lib.Ieee.Scale.{overflow}
use lib.Ieee.Exact.{HasValue}
use Rattle.roots.specs.Root.{rounded}
use Rattle.roots.specs.Nearest.{Nearest}
use Rattle.roots.proofs.Power.{Power, order, two_pos}
use Rattle.roots.proofs.Whole.{Whole}
use Rattle.roots.proofs.Rounds.{sticky, under, over, least, rounds}

-- the odd numbers beside 2 * q, for q = p + 1
pub odd_below : (p : ℕ) → 2 * suc p - 1 ≡ 2 * p + 1
odd_below p = omega arith

pub odd_above : (p : ℕ) → 2 * suc p + 1 ≡ 2 * p + 3
odd_above p = omega arith

-- twice a number, to the power
pub doubled : (f : ℕ → ℕ) {D : ℕ} → Power f D → (N x : ℕ) → f 2 * N * f x ≡ N * f (2 * x)
doubled f P N x = swap (f 2) (f x) ∙ ap (λ (z : ℕ). N * z) (sym (P.mul 2 x))
  where
    swap : (a b : ℕ) → a * N * b ≡ N * (a * b)
    swap a b = omega arith

-- q = p + 1 is nearest to N's root, which lies between 2 ^ 52 and 2 ^ 53, and k is the whole part of the root that is rounded
module _ (f : ℕ → ℕ) {D : ℕ} (P : Power f D) (N p j k : ℕ) (H : Nearest f N (suc p)) (lo : f (2 ^ 52) ≤ N) (hi : N < f (2 ^ 53)) (W : Whole f (N * f (2 * 2 ^ j)) k) where
  w : ℕ
  w = sticky k (eqb (f k) (N * f (2 * 2 ^ j)))

  four : (a x : ℕ) → 2 * (a * (2 * x)) ≡ a * x * 4
  four a x = omega arith

  T_pos : 0 < f (2 * 2 ^ j)
  T_pos = subst (λ (z : ℕ). 0 < f z) (pow-succ' 2 j) (two_pos f P (suc j))

  w_under : 2 * ((2 * p + 1) * 2 ^ j) < w
  unfolding w
  w_under = under f (order f P) (N * f (2 * 2 ^ j)) k W.0 W.1 ((2 * p + 1) * 2 ^ j)
      (lt_of_le_of_lt (le_of_eq (P.mul (2 * p + 1) (2 ^ j))) (lt_of_lt_of_le (mul-lt-mul_of_pos_right (subst (λ (z : ℕ). f z < f 2 * N) (odd_below p) H.below) (two_pos f P j)) (le_of_eq (doubled f P N (2 ^ j)))))

  w_over : w < 2 * ((2 * p + 3) * 2 ^ j)
  unfolding w
  w_over = over f (order f P) (N * f (2 * 2 ^ j)) k W.0 W.1 ((2 * p + 3) * 2 ^ j)
      (lt_of_le_of_lt (le_of_eq (sym (doubled f P N (2 ^ j)))) (lt_of_lt_of_le (mul-lt-mul_of_pos_right (subst (λ (z : ℕ). f 2 * N < f z) (odd_above p) H.above) (two_pos f P j)) (le_of_eq (sym (P.mul (2 * p + 3) (2 ^ j))))))

  w_least : 2 ^ 52 * 2 ^ j * 4 ≤ w
  unfolding w
  w_least = le_trans (le_of_eq (sym (four (2 ^ 52) (2 ^ j)))) (least f (order f P) (N * f (2 * 2 ^ j)) k W.0 W.1 (2 ^ 52 * (2 * 2 ^ j)) (le_trans (le_of_eq (P.mul (2 ^ 52) (2 * 2 ^ j))) (mul-le-mul_right (f (2 * 2 ^ j)) lo)))

  w_most : w < 2 ^ 53 * 2 ^ j * 4
  unfolding w
  w_most = lt_of_lt_of_le (over f (order f P) (N * f (2 * 2 ^ j)) k W.0 W.1 (2 ^ 53 * (2 * 2 ^ j)) (lt_of_lt_of_le (mul-lt-mul_of_pos_right hi T_pos) (le_of_eq (sym (P.mul (2 ^ 53) (2 * 2 ^ j)))))) (le_of_eq (four (2 ^ 53) (2 ^ j)))

  pub root_value : suc p * 2 ^ j < overflow binary64 → HasValue (rounded f (N * f (2 * 2 ^ j)) k) false (suc p * 2 ^ j) (2 ^ 1074)
  unfolding rounded w
  root_value fine = rounds w p j w_under w_over w_least w_most fine

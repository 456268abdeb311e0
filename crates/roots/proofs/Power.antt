-- What the proofs ask of a power: it keeps the order and multiplies, a power of 2 ^ j is one of 2, and an odd number's is no multiple of 2's. Assumes nothing.
use mathlib.Core.Path.{◌≡◌, sym, ap, ◌∙◌, subst}
use Prim.Native.Nat.{ℕ, ◌+◌, ◌*◌, ◌^◌, ◌≤◌, ◌<◌}
use native.Mathlib.Nat.{lt_of_not-le, not-le_of_lt, mul-le-mul}
use native.Mathlib.Omega.{arith}
use lib.Pow.{pow-add, pow_pos}
use Rattle.roots.specs.Power.{square, cube}

pub record Power (f : ℕ → ℕ) (degree : ℕ) : Type 0 where
  pub mono : (a b : ℕ) → a ≤ b → f a ≤ f b
  pub mul : (a b : ℕ) → f (a * b) ≡ f a * f b
  pub two : (j : ℕ) → f (2 ^ j) ≡ 2 ^ (degree * j)
  pub odd : (a n : ℕ) → f (2 * a + 1) ≡ f 2 * n → ⊥

pub order : (f : ℕ → ℕ) {d : ℕ} → Power f d → (a b : ℕ) → f a < f b → a < b
order f {d} P a b h = lt_of_not-le (λ (g : b ≤ a). not-le_of_lt h (P.mono b a g))

pub two_pos : (f : ℕ → ℕ) {d : ℕ} → Power f d → (j : ℕ) → 0 < f (2 ^ j)
two_pos f {d} P j = subst (λ (z : ℕ). 0 < z) (sym (P.two j)) (pow_pos (d * j))

pub square_power : Power square 2
square_power = record {
  mono = λ a b h. mul-le-mul h h;
  mul = λ a b. apart a b;
  odd = λ a n e. differ a n e;
  two = λ j. sym (ap (λ (z : ℕ). 2 ^ z) (twice j) ∙ pow-add 2 j j);
}
  where
    apart : (a b : ℕ) → a * b * (a * b) ≡ a * a * (b * b)
    apart a b = omega arith

    differ : (a n : ℕ) → square (2 * a + 1) ≡ 4 * n → ⊥
    differ a n e = omega arith

    twice : (j : ℕ) → 2 * j ≡ j + j
    twice j = omega arith

pub cube_power : Power cube 3
cube_power = record {
  mono = λ a b h. mul-le-mul (mul-le-mul h h) h;
  mul = λ a b. apart a b;
  odd = λ a n e. differ a n e;
  two = λ j. sym (ap (λ (z : ℕ). 2 ^ z) (thrice j) ∙ pow-add 2 (j + j) j ∙ ap (λ (z : ℕ). z * 2 ^ j) (pow-add 2 j j));
}
  where
    apart : (a b : ℕ) → cube (a * b) ≡ cube a * cube b
    apart a b = omega arith

    differ : (a n : ℕ) → cube (2 * a + 1) ≡ 8 * n → ⊥
    differ a n e = omega arith

    thrice : (j : ℕ) → 3 * j ≡ j + j + j
    thrice j = omega arith

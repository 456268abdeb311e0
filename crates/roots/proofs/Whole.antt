-- `isqrt n` and `icbrt n` are the whole parts of n's roots: the largest k whose power is at most n. Assumes nothing.
use mathlib.Core.Path.{◌≡◌, refl, sym, subst}
use Prim.Native.Nat.{ℕ, zero, suc, ◌+◌, ◌-◌, ◌*◌, ◌/◌, ◌^◌, ◌≤◌, ◌<◌}
use native.Mathlib.Nat.{le_refl, le_trans, le_of_eq, le_of_lt, lt_of_lt_of_le, mul-le-mul, mul-le-mul_right, mul-pos, mul_assoc, div-mul-le_self, lt-mul-div-succ}
use native.Mathlib.Omega.{arith}
use mathlib.Core.Bool.{Bool, true, false, not}
use lib.Dec.{T, ltb, ltb→lt, nltb→le}
use lib.Pow.{pow_mono}
use lib.Ieee.{size}
use lib.Ieee.Digits.{size-lt}
use Rattle.roots.specs.Power.{square, cube}
use Rattle.roots.specs.Root.{descend, isqrt}
use Rattle.roots.specs.Cube.{icbrt}
use Rattle.roots.proofs.Power.{Power, square_power, cube_power}

abbrev pub Whole : (ℕ → ℕ) → ℕ → ℕ → Type 0
Whole f n k = (f k ≤ n) × (n < f (suc k))

-- ---- the way down, for a step that never goes below the root, and goes down from above it
module _ (f : ℕ → ℕ) {D : ℕ} (P : Power f D) (step : ℕ → ℕ) (n : ℕ) (over : (b : ℕ) → 0 < b → n < f (suc (step b))) (stays : (b : ℕ) → b ≤ step b → f b ≤ n) where
  stopped : (d b a : ℕ) → descend step d false b a ≡ a
  unfolding descend
  stopped zero b a = refl
  stopped (suc d) b a = refl

  descends : (d b a : ℕ) → b < d → n < f (suc b) → Whole f n (descend step d true b a)
  unfolding descend
  descends zero b a l h = absurd (none b l)
    where
      none : (b : ℕ) → b < 0 → ⊥
      none b h = omega arith
  descends (suc d) b a l h = go (step b) (ltb (step b) b) (ltb→lt (step b) b) (nltb→le (step b) b) (descends d (step b) b) (over b) (stays b)
    where
      some : (c : ℕ) → c < b → 0 < b
      some c g = omega arith

      fuel : (c : ℕ) → c < b → c < d
      fuel c g = omega arith

      go : (c : ℕ) (t : Bool) → (T t → c < b) → (T (not t) → b ≤ c) → (c < d → n < f (suc c) → Whole f n (descend step d true c b)) → (0 < b → n < f (suc c)) → (b ≤ c → f b ≤ n) → Whole f n (descend step d t c b)
      go c true u v ih o s = ih (fuel c (u tt)) (o (some c (u tt)))
      go c false u v ih o s = subst (λ (k : ℕ). Whole f n k) (sym (stopped d c b)) (s (v tt), h)

  -- from 2 ^ suc z, for a z of which d times are n's digits
  pub from_top : (z : ℕ) → size n ≤ D * suc z → Whole f n (descend step (suc (2 ^ suc z)) true (2 ^ suc z) (2 ^ suc z))
  from_top z h =
      let a = 2 ^ suc z in
      descends (suc a) a a (le_refl (suc a))
      (lt_of_lt_of_le (size-lt n) (le_trans (pow_mono h) (le_trans (le_of_eq (sym (P.two (suc z)))) (P.mono a (suc a) (le_of_lt (le_refl (suc a)))))))

-- b and q in either order
by_order : (C : ℕ → ℕ → Type 0) → ((b d : ℕ) → C b (b + d)) → ((q d : ℕ) → C (q + d) q) → (b q : ℕ) → C b q
by_order C upper lower b q = go (ltb b q) (ltb→lt b q) (nltb→le b q)
  where
    sum : (a c : ℕ) → a ≤ c → a + (c - a) ≡ c
    sum a c h = omega arith

    go : (t : Bool) → (T t → b < q) → (T (not t) → q ≤ b) → C b q
    go true h k = subst (λ (x : ℕ). C b x) (sum b q (le_of_lt (h tt))) (upper b (q - b))
    go false h k = subst (λ (x : ℕ). C x q) (sum q b (k tt)) (lower q (b - q))

-- ---- the square root's step
pub isqrt_whole : (n : ℕ) → Whole square n (isqrt n)
unfolding isqrt
isqrt_whole n = from_top square square_power (λ (b : ℕ). (b + n / b) / 2) n over stays (size n / 2) (halves (size n))
  where
    halves : (z : ℕ) → z ≤ 2 * suc (z / 2)
    halves z = omega arith

    means : (b q : ℕ) → 4 * (b * q) ≤ (b + q) * (b + q)
    means = by_order (λ (b q : ℕ). 4 * (b * q) ≤ (b + q) * (b + q)) (λ (b d : ℕ). upper b d) (λ (q d : ℕ). lower q d)
      where
        upper : (b d : ℕ) → 4 * (b * (b + d)) ≤ (b + (b + d)) * (b + (b + d))
        upper b d = omega arith

        lower : (q d : ℕ) → 4 * ((q + d) * q) ≤ (q + d + q) * (q + d + q)
        lower q d = omega arith

    cut : (n x y z : ℕ) → n < x → 4 * x ≤ y → y ≤ square (2 * z) → n < square z
    cut n x y z h k l = omega arith

    half : (b q : ℕ) → b + (q + 1) ≤ 2 * suc ((b + q) / 2)
    half b q = omega arith

    over : (b : ℕ) → 0 < b → n < square (suc ((b + n / b) / 2))
    over b B = let q = n / b in cut n (b * (q + 1)) (square (b + (q + 1))) (suc ((b + q) / 2)) (lt-mul-div-succ n B) (means b (q + 1)) (mul-le-mul (half b q) (half b q))

    less : (b q : ℕ) → b ≤ (b + q) / 2 → b ≤ q
    less b q h = omega arith

    stays : (b : ℕ) → b ≤ (b + n / b) / 2 → square b ≤ n
    stays b h = le_trans (mul-le-mul_right b (less b (n / b) h)) (div-mul-le_self n b)

-- ---- the cube root's step
pub icbrt_whole : (n : ℕ) → Whole cube n (icbrt n)
unfolding icbrt
icbrt_whole n = from_top cube cube_power (λ (b : ℕ). (2 * b + n / (b * b)) / 3) n over stays (size n / 3) (thirds (size n))
  where
    thirds : (z : ℕ) → z ≤ 3 * suc (z / 3)
    thirds z = omega arith

    means : (b q : ℕ) → 27 * (b * b * q) ≤ cube (2 * b + q)
    means = by_order (λ (b q : ℕ). 27 * (b * b * q) ≤ cube (2 * b + q)) (λ (b d : ℕ). upper b d) (λ (q d : ℕ). lower q d)
      where
        upper : (b d : ℕ) → 27 * (b * b * (b + d)) ≤ cube (2 * b + (b + d))
        upper b d = omega arith

        lower : (q d : ℕ) → 27 * ((q + d) * (q + d) * q) ≤ cube (2 * (q + d) + q)
        lower q d = omega arith

    cut : (n x y z : ℕ) → n < x → 27 * x ≤ y → y ≤ cube (3 * z) → n < cube z
    cut n x y z h k l = omega arith

    third : (b q : ℕ) → 2 * b + (q + 1) ≤ 3 * suc ((2 * b + q) / 3)
    third b q = omega arith

    over : (b : ℕ) → 0 < b → n < cube (suc ((2 * b + n / (b * b)) / 3))
    over b B =
        let q = n / (b * b) in
        let t = third b q in
        cut n (b * b * (q + 1)) (cube (2 * b + (q + 1))) (suc ((2 * b + q) / 3)) (lt-mul-div-succ n (mul-pos B B)) (means b (q + 1)) (mul-le-mul (mul-le-mul t t) t)

    less : (b q : ℕ) → b ≤ (2 * b + q) / 3 → b ≤ q
    less b q h = omega arith

    stays : (b : ℕ) → b ≤ (2 * b + n / (b * b)) / 3 → cube b ≤ n
    stays b h = le_trans (le_of_eq (mul_assoc b b b)) (le_trans (mul-le-mul_right (b * b) (less b (n / (b * b)) h)) (div-mul-le_self n (b * b)))

-- An accepted inclination is 0 to 180 degrees, and so it prints. Assumes nothing.
use mathlib.Core.Path.{refl, sym}
use mathlib.Core.Logic.{◌⊎◌, inl, inr}
use mathlib.Core.Bool.{Bool, true, false, true≢false, cond}
use Prim.Native.Nat.{ℕ, ◌+◌, ◌*◌, ◌%◌, ◌^◌, ◌≤◌}
use native.Mathlib.Nat.{mod-le, mul-pos}
use native.Mathlib.Omega.{arith}
use lib.Dec.{T, lit<, lit≤}
use lib.Ieee.{Float, nan, inf, fin, up, down, lt, rem, round, of_bits}
use lib.Ieee.Fits.{down_pos, and_l, and_r}
use borrow.Author.Tests.{le-ltb, ltb-false}
use Rattle.float.specs.Ops.{◌⊕◌, ◌⊗◌, ◌⊛◌, bits, rem_euclid_of, degrees_of, degrees_per_radian_bits}
use Rattle.float.specs.Trig.{pi, pi_bits, is_finite}
use Rattle.float.proofs.Rounding.{Within, wider, Stays, round_stays}
use Rattle.bounds.proofs.Bounds.{mul_within}
use Rattle.tle.specs.Elements.{full_circle_bits, printed_degrees}
use Rattle.tle.specs.Answer.{from_to, angle_fits, inclination_fits}
use Rattle.tle.proofs.Ranges.{UpTo, neither, up_to, minus_zero}

-- ---- a remainder by 360 is at most what is divided
rest_within : (s : Bool) (b : ℕ) (y : Float) → Stays b 1 → Within s b 1 y → Within s b 1 (y ⊛ bits 0x4076800000000000)
unfolding rem of_bits
rest_within s b nan st w = absurd w
rest_within s b (inf t) st w = absurd w
rest_within s b (fin t m e) st w =
    let D = down_pos e in
    let l = mod-le (m * up e * 1) (360 * down e) in
    rw w.0 (round_stays s (m * up e * 1 % (360 * down e)) (down e * 1) b 1 (mul-pos D (lit< tt)) (lit< tt) (omega (arith, w.1, l)) st)

-- ---- an accepted inclination is at most π, or a zero with a minus
within_pi : (i : Float) → T (is_finite i) → T (from_to (bits 0) (bits 0x400921fb54442d18) i) → Within false 884279719003555 (2 ^ 48) i ⊎ Within true 0 1 i
unfolding lt of_bits
within_pi nan f t = absurd f
within_pi (inf s) f t = absurd f
within_pi (fin false m e) f t = inl (refl, ltb-false _ _ (neither (lt (fin false m e) (bits 0)) (lt (bits 0x400921fb54442d18) (fin false m e)) t).1)
within_pi (fin true m e) f t =
    let z : m * up e * 1 + 0 * down e ≤ 0 = ltb-false _ _ (neither (lt (fin true m e) (bits 0)) (lt (bits 0x400921fb54442d18) (fin true m e)) t).0 in
    inr (refl, omega (arith, z))

-- ---- its degrees. π is 884279719003555 / 2^48 and a radian has 1007958012753983 / 2^44 degrees: together a little below 180.
degrees_within : (i : Float) → Within false 884279719003555 (2 ^ 48) i → Within false 180 1 (i ⊗ bits 0x404ca5dc1a63c1f8)
unfolding of_bits
degrees_within i w =
    let b : ℕ = 180 * 2 ^ 44 in
    let n : ℕ = 1007958012753983 in
    wider false (b * n) (n * 2 ^ 44) 180 1 (i ⊗ bits 0x404ca5dc1a63c1f8) (lit< tt) (lit≤ tt)
    (mul_within false false b n n (2 ^ 44) i (bits 0x404ca5dc1a63c1f8) (lit< tt) (lit< tt) (wider false 884279719003555 (2 ^ 48) b n i (lit< tt) (lit≤ tt) w) (refl, lit≤ tt) (unfold round in (refl, refl)))

zero_within : (i : Float) → Within true 0 1 i → Within true 0 1 (i ⊗ bits 0x404ca5dc1a63c1f8)
unfolding of_bits
zero_within i w =
    wider true 0 (2 ^ 44) 0 1 (i ⊗ bits 0x404ca5dc1a63c1f8) (lit< tt) (lit≤ tt)
    (mul_within true false 0 1 1007958012753983 (2 ^ 44) i (bits 0x404ca5dc1a63c1f8) (lit< tt) (lit< tt) w (refl, lit≤ tt) (unfold round in (refl, refl)))

-- ---- what is not below zero has nothing added
abbrev around_circle : Float → Float
around_circle r = cond (lt r (bits 0)) (r ⊕ bits 0x4076800000000000) r

above_up : (r : Float) → Within false 180 1 r → UpTo 180 (around_circle r)
unfolding lt of_bits
above_up nan w = absurd w
above_up (inf s) w = absurd w
above_up (fin true k e) w = absurd (true≢false w.0)
above_up (fin false k e) w = simp (le-ltb (k * up e * 1) (0 * down e) (omega arith)) (up_to 180 (fin false k e) (lit< tt) w)

zero_up : (r : Float) → Within true 0 1 r → UpTo 180 (around_circle r)
unfolding lt of_bits
zero_up nan w = absurd w
zero_up (inf s) w = absurd w
zero_up (fin false k e) w = absurd (true≢false (sym w.0))
zero_up (fin true k e) w = simp (le-ltb 0 (k * up e * 1 + 0 * down e) (omega (arith, w.1))) (minus_zero 180 k e (omega (arith, w.1)))

circle_up : (i : Float) → T (is_finite i) → T (from_to (bits 0) (bits 0x400921fb54442d18) i) → UpTo 180 (around_circle (i ⊗ bits 0x404ca5dc1a63c1f8 ⊛ bits 0x4076800000000000))
circle_up i f t = elim (within_pi i f t) [
  | inl w ↦ above_up _ (rest_within false 180 _ (unfold round in (refl, refl)) (degrees_within i w))
  | inr w ↦ zero_up _ (rest_within true 0 _ (unfold round in (refl, refl)) (zero_within i w))
]

pub inclination_up : (i : Float) → T (inclination_fits i) → UpTo 180 (printed_degrees i)
unfolding inclination_fits angle_fits printed_degrees rem_euclid_of degrees_of
inclination_up i t =
    let a = and_l (angle_fits i) (from_to (bits 0) pi i) t in
    simp (← full_circle_bits, ← degrees_per_radian_bits) (circle_up i (and_l (is_finite i) (is_finite (degrees_of i)) a) (simp (← pi_bits) at (and_r (angle_fits i) (from_to (bits 0) pi i) t)))

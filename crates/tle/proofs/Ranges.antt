-- What the lines print is in its columns' range: an angle is at most 360, the mean motion at most 54 and the day of the year at most 367. Assumes nothing.
use mathlib.Core.Path.{◌≡◌, refl, subst}
use mathlib.Core.Logic.{inl, inr}
use mathlib.Core.Bool.{Bool, true, false, true≢false, not, ◌||◌, cond}
use Prim.Native.Nat.{ℕ, ◌+◌, ◌-◌, ◌*◌, ◌/◌, ◌%◌, ◌^◌, ◌≤◌, ◌<◌}
use native.Mathlib.Nat.{lt_of_le_of_lt, mul-one, mul-pos, mul-lt-mul_of_pos_right}
use native.Mathlib.Omega.{arith}
use lib.IntN.{ℤ, pos}
use lib.Dec.{T, ltb, lit<, lit≤}
use lib.Ieee.{Float, nan, inf, fin, up, down, lt, add, sum, round, of_bits}
use lib.Ieee.Fits.{down_pos}
use lib.Ieee.Positive.{num, den}
use borrow.Author.Tests.{lt-ltb, le-ltb, ltb-false}
use Rattle.float.specs.Ops.{◌⊕◌, ◌⊗◌, ◌⊘◌, ◌⊛◌, bits, rem_euclid_of, degrees_of, of_nat}
use Rattle.float.specs.Trig.{is_finite, full_bits}
use Rattle.float.proofs.Rounding.{Within, round_stays, rem_within}
use Rattle.bounds.proofs.Bounds.{nat_up, mul_within, add_within, Least, mul_least, div_within}
use Rattle.bounds.proofs.Root.{sqrt_up}
use Rattle.roots.specs.Root.{sqrt_of}
use Rattle.decimal.specs.Fixed.{within, printable}
use Rattle.decimal.proofs.Printable.{yes, between}
use Rattle.decimal.proofs.Theorems.{decimal_le}
use Rattle.tle.specs.Elements.{full_circle_bits, printed_degrees, seconds_per_day_bits, mean_motion_of, seconds_per_hour_bits, seconds_per_minute_bits, nanos_per_second_bits, epoch_fraction}
use Rattle.orbit.specs.Orbit.{mu_bits}
use Rattle.solution.specs.Range.{least_radius, least_radius_bits, most_radius, most_radius_bits}
use Rattle.tle.specs.Answer.{from_to}
use Rattle.laws.proofs.Numbers.{lt_or_ge}

-- a number from one to another is neither below the one nor above the other
pub neither : (x y : Bool) → T (not (x || y)) → (x ≡ false) × (y ≡ false)
neither true y t = absurd t
neither false true t = absurd t
neither false false t = (refl, refl)

-- ---- v is not below zero, and at most m
pub record UpTo (m : ℕ) (v : Float) : Type 0 where
  pub range : T (within v)
  pub size : num v ≤ m * den v

pub up_to : (m : ℕ) (v : Float) → m < 1000 → Within false m 1 v → UpTo m v
up_to m nan h w = absurd w
up_to m (inf s) h w = absurd w
up_to m (fin true k e) h w = absurd (true≢false w.0)
up_to m (fin false k e) h w =
    let D = down_pos e in
    let l : m * down e < 1000 * down e = mul-lt-mul_of_pos_right h D in
    record {
      range = between (fin false k e) (unfold lt in le-ltb (k * up e * 1) (0 * down e) (omega arith)) (unfold lt in lt-ltb (k * up e * 1) (1000 * down e) (lt_of_le_of_lt w.1 l));
      size = subst (λ (x : ℕ). x ≤ m * down e) (mul-one (k * up e)) w.1;
    }

-- it prints with p places in w columns
pub prints : (v : Float) (p w at m : ℕ) → UpTo m v → p ≤ 8 → p + 2 ≤ w → w ≤ 16 → at ≤ 69 → w ≤ 69 - at → m * 10 ^ p < 10 ^ (w - 1) → T (printable v p w at 69)
prints v p w at m u a b c d e f =
    subst T (yes v p w at 69 (u.range, a, b, c, d, e) (lt_of_le_of_lt (decimal_le p m v u.size) f)) tt

-- ---- degrees
circle_within : (s : Bool) (m : ℕ) (e : ℤ) → Within s 360 1 (fin s m e ⊛ bits 0x4076800000000000)
unfolding of_bits
circle_within s m e = rem_within s m e 45 (pos 3) (lit< tt) (unfold round in (refl, refl))

pub minus_zero : (m k : ℕ) (e : ℤ) → k * up e * 1 ≤ 0 → UpTo m (fin true k e)
minus_zero m k e h =
    let D = down_pos e in
    record {
      range = between (fin true k e) (unfold lt in le-ltb 0 (k * up e * 1 + 0 * down e) (omega arith)) (unfold lt in lt-ltb 0 (k * up e * 1 + 1000 * down e) (omega arith));
      size = omega arith;
    }

turned : (k : ℕ) (e : ℤ) → k * up e * 1 ≤ 360 * down e → UpTo 360 (fin true k e ⊕ bits 0x4076800000000000)
unfolding add sum of_bits
turned k e h = elim (lt_or_ge (k * up e * 1) (360 * down e)) [
  | inl p ↦ simp (lt-ltb _ _ p)
      (up_to 360 _ (lit< tt)
      (round_stays false (360 * down e - k * up e * 1) (down e * 1) 360 1 (mul-pos (down_pos e) (lit< tt)) (lit< tt) (omega arith) (unfold round in (refl, refl))))
  | inr p ↦ simp (le-ltb _ _ p, le-ltb (360 * down e) (k * up e * 1) h)
      (up_to 360 _ (lit< tt)
      (round_stays false (k * up e * 1 - 360 * down e) (down e * 1) 360 1 (mul-pos (down_pos e) (lit< tt)) (lit< tt) (omega arith) (unfold round in (refl, refl))))
]

rest : (s : Bool) (r : Float) → Within s 360 1 r → UpTo 360 (cond (lt r (bits 0)) (r ⊕ bits 0x4076800000000000) r)
rest s nan w = absurd w
rest s (inf t) w = absurd w
rest s (fin false k e) w = unfold lt of_bits in simp (le-ltb (k * up e * 1) (0 * down e) (omega arith)) (up_to 360 (fin false k e) (lit< tt) (refl, w.1))
rest s (fin true k e) w = unfold lt of_bits in elim (lt_or_ge 0 (k * up e * 1 + 0 * down e)) [
  | inl p ↦ simp (lt-ltb _ _ p) (turned k e w.1)
  | inr p ↦ simp (le-ltb _ _ p) (minus_zero 360 k e (omega arith))
]

pub degrees_up : (x : Float) → T (is_finite (degrees_of x)) → UpTo 360 (printed_degrees x)
unfolding printed_degrees rem_euclid_of
degrees_up x f = simp (← full_circle_bits) (go (degrees_of x) f)
  where
    go : (y : Float) → T (is_finite y) → UpTo 360 (cond (lt (y ⊛ bits 0x4076800000000000) (bits 0)) (y ⊛ bits 0x4076800000000000 ⊕ bits 0x4076800000000000) (y ⊛ bits 0x4076800000000000))
    go nan f = absurd f
    go (inf s) f = absurd f
    go (fin s m e) f = rest s (fin s m e ⊛ bits 0x4076800000000000) (circle_within s m e)

-- ---- the day of the year
parts_up : (secs nanos : ℕ) → secs < 86400 → nanos ≤ 999999999
    → Within false 1 1 ((of_nat (secs / 3600) ⊗ bits 0x40ac200000000000 ⊕ of_nat (secs / 60 % 60) ⊗ bits 0x404e000000000000 ⊕ of_nat (secs % 60) ⊕ of_nat nanos ⊘ bits 0x41cdcd6500000000) ⊘ bits 0x40f5180000000000)
unfolding of_bits
parts_up secs nanos h k =
    let hour = nat_up (secs / 3600) 23 (omega arith) (unfold round in (refl, refl)) in
    let minute = nat_up (secs / 60 % 60) 59 (omega arith) (unfold round in (refl, refl)) in
    let second = nat_up (secs % 60) 59 (omega arith) (unfold round in (refl, refl)) in
    let nano = nat_up nanos 999999999 k (unfold round in (refl, refl)) in
    let a = mul_within false false 23 1 3600 1 (of_nat (secs / 3600)) (bits 0x40ac200000000000) (lit< tt) (lit< tt) hour (refl, lit≤ tt) (unfold round in (refl, refl)) in
    let b = mul_within false false 59 1 60 1 (of_nat (secs / 60 % 60)) (bits 0x404e000000000000) (lit< tt) (lit< tt) minute (refl, lit≤ tt) (unfold round in (refl, refl)) in
    let c = add_within false 82800 3540 1 _ _ (lit< tt) a b (unfold round in (refl, refl)) in
    let d = add_within false 86340 59 1 _ _ (lit< tt) c second (unfold round in (refl, refl)) in
    let n = div_within false 999999999 1 1000000000 1 1 1 (of_nat nanos) (bits 0x41cdcd6500000000) (lit< tt) (lit< tt) (lit< tt) nano (lit≤ tt) (lit≤ tt) (unfold round in (refl, refl)) in
    let e = add_within false 86399 1 1 _ _ (lit< tt) d n (unfold round in (refl, refl)) in
    div_within false 86400 1 86400 1 1 1 _ (bits 0x40f5180000000000) (lit< tt) (lit< tt) (lit< tt) e (lit≤ tt) (lit≤ tt) (unfold round in (refl, refl))

fraction_up : (secs nanos : ℕ) → secs < 86400 → nanos ≤ 999999999 → Within false 1 1 (epoch_fraction secs nanos)
unfolding epoch_fraction
fraction_up secs nanos h k = simp (← seconds_per_hour_bits, ← seconds_per_minute_bits, ← nanos_per_second_bits, ← seconds_per_day_bits) (parts_up secs nanos h k)

pub day_up : (day secs nanos : ℕ) → day ≤ 366 → secs < 86400 → nanos ≤ 999999999 → UpTo 367 (of_nat day ⊕ epoch_fraction secs nanos)
day_up day secs nanos h k l =
    up_to 367 _ (lit< tt) (add_within false 366 1 1 _ _ (lit< tt) (nat_up day 366 h (unfold round in (refl, refl))) (fraction_up secs nanos k l) (unfold round in (refl, refl)))

-- ---- the mean motion
orbit_least : (a : Float) → T (is_finite a) → T (from_to (bits 0x4158cba800000000) (bits 0x417312d000000000) a) → Least 6500000 1 a
unfolding lt of_bits
orbit_least nan f t = absurd f
orbit_least (inf s) f t = absurd f
orbit_least (fin true m e) f t =
    let D = down_pos e in
    absurd (simp (lt-ltb 0 (m * up e * 1 + 6500000 * down e) (omega arith)) at t)
orbit_least (fin false m e) f t =
    ltb-false (m * up e * 1) (6500000 * down e) (neither (ltb (m * up e * 1) (6500000 * down e)) (ltb (20000000 * down e) (m * up e * 1)) t).0

-- a³ is at least 6500 km cubed, 3.986004418e14 / a³ at most 2 ^ -18, its root at most 2 ^ -8, × 86400 at most 337.5, and / 6.283185307179586 at most 54
motion_up : (a : Float) → T (is_finite a) → T (from_to (bits 0x4158cba800000000) (bits 0x417312d000000000) a) → UpTo 54 (sqrt_of (bits 0x42f6a8665bda5400 ⊘ (a ⊗ a ⊗ a)) ⊗ bits 0x40f5180000000000 ⊘ bits 0x401921fb54442d18)
unfolding of_bits
motion_up a f t =
    let l = orbit_least a f t in
    let square = mul_least 6500000 1 6500000 1 a a (lit< tt) (lit< tt) (lit< tt) (lit< tt) l l (unfold round in (refl, refl)) in
    let cube = mul_least 42250000000000 1 6500000 1 (a ⊗ a) a (lit< tt) (lit< tt) (lit< tt) (lit< tt) square l (unfold round in (refl, refl)) in
    let quotient = div_within false 398600441800000 1 274625000000000000000 1 1 (2 ^ 18) (bits 0x42f6a8665bda5400) _ (lit< tt) (lit< tt) (lit< tt) (refl, lit≤ tt) cube (lit≤ tt) (unfold round in (refl, refl)) in
    let root = sqrt_up 1 (2 ^ 18) (2 ^ 1067) 1 (2 ^ 8) _ (lit< tt) (lit< tt) (lit≤ tt) (lit≤ tt) (unfold round in (refl, refl)) quotient in
    let day = mul_within false false 1 (2 ^ 8) 86400 1 _ (bits 0x40f5180000000000) (lit< tt) (lit< tt) root (refl, lit≤ tt) (unfold round in (refl, refl)) in
    up_to 54 _ (lit< tt) (div_within false 86400 (2 ^ 8) 884279719003555 (2 ^ 47) 54 1 _ (bits 0x401921fb54442d18) (lit< tt) (lit< tt) (lit< tt) day (lit≤ tt) (lit≤ tt) (unfold round in (refl, refl)))

pub mean_motion_up : (a : Float) → T (is_finite a) → T (from_to least_radius most_radius a) → UpTo 54 (mean_motion_of a)
unfolding mean_motion_of
mean_motion_up a f t = simp (← mu_bits, ← seconds_per_day_bits, ← full_bits) (motion_up a f (simp (← least_radius_bits, ← most_radius_bits) at t))

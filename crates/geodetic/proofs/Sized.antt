-- Where refusal 13 is not given, each coordinate of a mast's place is a number of at most 2^24 m in size, so that the fit's refusal of arguments
-- that are NaN turns on the others alone. Assumes nothing.
use mathlib.Core.Path.{◌≡◌, refl}
use mathlib.Core.Bool.{Bool, true, false, true≢false, ◌||◌}
use Prim.Native.Nat.{ℕ, ◌*◌, ◌^◌, ◌≤◌}
use native.Mathlib.Nat.{le_trans, mul-le-mul_right}
use lib.IntN.{pos}
use lib.Dec.{T, lit<, lit≤}
use lib.Ieee.{Float, nan, inf, fin, up, down, neg, lt, le, is_nan, add, sum, sub, mul, div, round}
use lib.Ieee.Fits.{down_pos}
use lib.Ieee.Order.{le_of_values}
use borrow.Author.Tests.{ltb-false}
use Rattle.laws.proofs.Tests.{or_left, or_right}
use Rattle.roots.specs.Root.{sqrt_of}
use Rattle.float.specs.Constant.{decimal}
use Rattle.float.specs.Ops.{◌⊕◌, ◌⊖◌, ◌⊗◌, one, two, abs_of, radians_of, radians_per_degree}
use Rattle.float.specs.Trig.{is_finite, sin_of, cos_of}
use Rattle.float.proofs.Rounding.{Size}
use Rattle.bounds.proofs.Bounds.{Least, sub_least}
use Rattle.bounds.proofs.Size.{mul_size, div_size, Below, mul_below, add_below, stays_power}
use Rattle.bounds.proofs.Root.{sqrt_least}
use Rattle.bounds.proofs.Sine.{sin_size, cos_size}
use Rattle.geodetic.specs.Ellipsoid.{semi_major_axis, inverse_flattening, eccentricity_squared, prime_vertical, earth_fixed, outside, off_limits}

-- a number, and at most 2^24 in size
pub record Sized (v : Float) : Type 0 where
  pub number : is_nan v ≡ false
  pub size : T (le (abs_of v) (decimal 16777216 0))

sized_of : (v : Float) → Below 24 v → Sized v
sized_of nan w = absurd w.1
sized_of (inf s) w = absurd w.1
sized_of (fin s m e) w = record {
  number = unfold is_nan in refl;
  size = unfold abs_of in le_of_values (fin false m e) (decimal 16777216 0) (m * up e) (down e) 16777216 1 (down_pos e) (lit< tt) (refl, refl) (stays_power 24 (lit< tt)) w.1.1;
}

-- ---- what 13's test leaves: from -a × 2 ^ k to b × 2 ^ l
inside : (a k b l M : ℕ) (v : Float) → outside (fin true a (pos k)) (fin false b (pos l)) v ≡ false → a * 2 ^ k ≤ M → b * 2 ^ l ≤ M → Size M 1 v
unfolding outside lt is_nan
inside a k b l M nan h p q = absurd (true≢false h)
inside a k b l M (inf true) h p q = absurd (true≢false h)
inside a k b l M (inf false) h p q = absurd (true≢false h)
inside a k b l M (fin true m e) h p q = (true, (refl, le_trans (ltb-false (a * 2 ^ k * down e) (m * up e * 1) (or_left _ _ h)) (mul-le-mul_right (down e) p)))
inside a k b l M (fin false m e) h p q = (false, (refl, le_trans (ltb-false (b * 2 ^ l * down e) (m * up e * 1) h) (mul-le-mul_right (down e) q)))

-- the three, each under a power of two that is enough
limits : (lat lon alt : Float) → off_limits lat lon alt ≡ false → Below 9 lat × Below 9 lon × Below 23 alt
unfolding off_limits neg round
limits lat lon alt h =
    let a = outside (neg (decimal 90 0)) (decimal 90 0) lat in
    let b = outside (neg (decimal 360 0)) (decimal 360 0) lon in
    let c = outside (neg (decimal 500 0)) (decimal 10000 0) alt in
    let h' : (b || c) ≡ false = or_right a (b || c) h in (
      inside 45 1 45 1 (2 ^ 9) lat (or_left a (b || c) h) (lit≤ tt) (lit≤ tt),
      inside 45 3 45 3 (2 ^ 9) lon (or_left b c h') (lit≤ tt) (lit≤ tt),
      inside 125 2 625 4 (2 ^ 23) alt (or_right b c h') (lit≤ tt) (lit≤ tt),
    )

-- ---- radians are finite
finite_of : (b d : ℕ) (v : Float) → Size b d v → T (is_finite v)
finite_of b d nan w = absurd w.1
finite_of b d (inf s) w = absurd w.1
finite_of b d (fin s m e) w = tt

per_degree_below : Below 0 radians_per_degree
unfolding radians_per_degree round
per_degree_below = (false, (refl, lit≤ tt))

radians_finite : (v : Float) → Below 9 v → T (is_finite (radians_of v))
unfolding radians_of
radians_finite v w = finite_of (2 ^ 9) 1 (v ⊗ radians_per_degree) (mul_below 9 0 v radians_per_degree (lit< tt) w per_degree_below)

-- ---- the radius: e2 is at most 1/128, so 1 − e2·s·s at least 127/128, which is above (7/8)², and 6378137 / (7/8) is below 2^23
eccentricity_size : Size 1 128 eccentricity_squared
unfolding eccentricity_squared inverse_flattening one two div mul sub add sum neg round
eccentricity_size = (false, (refl, lit≤ tt))

one_least : Least 128 128 one
unfolding one round
one_least = lit≤ tt

radius_below : (s : Float) → Size 1 1 s → Below 23 (prime_vertical eccentricity_squared s)
unfolding prime_vertical
radius_below s h =
    let e2 = eccentricity_squared in
    let es = mul_size 1 128 1 1 e2 s (lit< tt) (lit< tt) eccentricity_size h (unfold round in (refl, refl)) in
    let ess = mul_size 1 128 1 1 (e2 ⊗ s) s (lit< tt) (lit< tt) es h (unfold round in (refl, refl)) in
    let d = sub_least 127 1 128 one (e2 ⊗ s ⊗ s) (lit< tt) (lit< tt) one_least ess (unfold round in (refl, refl)) in
    let r = sqrt_least 127 128 (7 * 2 ^ 1072) 7 8 (one ⊖ e2 ⊗ s ⊗ s) (lit< tt) (lit< tt) (lit< tt) (lit< tt) (lit≤ tt) (lit≤ tt) (unfold round in (refl, refl)) d in
    div_size 6378137 1 7 8 (2 ^ 23) 1 semi_major_axis (sqrt_of (one ⊖ e2 ⊗ s ⊗ s)) (lit< tt) (lit< tt) (lit< tt) axis_size r (lit≤ tt) (stays_power 23 (lit< tt))
  where
    axis_size : Size 6378137 1 semi_major_axis
    axis_size = unfold semi_major_axis round in (false, (refl, lit≤ tt))

-- ---- 1 − e2
rest_below : Below 0 (one ⊖ eccentricity_squared)
unfolding eccentricity_squared inverse_flattening one two div mul sub add sum neg round
rest_below = (false, (refl, lit≤ tt))

-- ---- the three coordinates
pub sized : (lat lon alt : Float) → off_limits lat lon alt ≡ false → Sized (earth_fixed lat lon alt).x × Sized (earth_fixed lat lon alt).y × Sized (earth_fixed lat lon alt).z
unfolding earth_fixed
sized lat lon alt h =
    let phi = radians_of lat in
    let lambda = radians_of lon in
    let l = limits lat lon alt h in
    let fp = radians_finite lat l.0 in
    let fl = radians_finite lon l.1 in
    let sp = sin_size phi fp in
    let cp = cos_size phi fp in
    let A = l.2 in
    let n = prime_vertical eccentricity_squared (sin_of phi) in
    let N = radius_below (sin_of phi) sp in
    let p = (n ⊕ alt) ⊗ cos_of phi in
    let P = mul_below 24 0 (n ⊕ alt) (cos_of phi) (lit< tt) (add_below 23 n alt (lit< tt) N A) cp in
    let m = n ⊗ (one ⊖ eccentricity_squared) in
    let M = mul_below 23 0 n (one ⊖ eccentricity_squared) (lit< tt) N rest_below in (
      sized_of (p ⊗ cos_of lambda) (mul_below 24 0 p (cos_of lambda) (lit< tt) P (cos_size lambda fl)),
      sized_of (p ⊗ sin_of lambda) (mul_below 24 0 p (sin_of lambda) (lit< tt) P (sin_size lambda fl)),
      sized_of ((m ⊕ alt) ⊗ sin_of phi) (mul_below 24 0 (m ⊕ alt) (sin_of phi) (lit< tt) (add_below 23 m alt (lit< tt) M A) sp),
    )

-- ---- a NaN among three such numbers and others is among the others
pub nan_elsewhere : (x y z : Float) (others : Bool) → Sized x → Sized y → Sized z → (is_nan x || (is_nan y || (is_nan z || others))) ≡ others
nan_elsewhere x y z others p q r = simp (p.number, q.number, r.number)

-- so of a place that 13 does not refuse: the fit's test for NaN is that of a and i
pub nan_of_others : (lat lon alt a i : Float) → off_limits lat lon alt ≡ false
    → (is_nan (earth_fixed lat lon alt).x || (is_nan (earth_fixed lat lon alt).y || (is_nan (earth_fixed lat lon alt).z || (is_nan a || is_nan i)))) ≡ (is_nan a || is_nan i)
nan_of_others lat lon alt a i h =
    let s = sized lat lon alt h in
    nan_elsewhere (earth_fixed lat lon alt).x (earth_fixed lat lon alt).y (earth_fixed lat lon alt).z (is_nan a || is_nan i) s.0 s.1 s.2

-- Position and velocity on a circular orbit whose node drifts by J2 (Vallado, Fundamentals of Astrodynamics, section 9.6), in
-- the Rust's order; the argument of latitude has no J2 term there.
use Rattle.std.specs.Prelude.{◌≡◌, refl, not, ◌&&◌, [], ◌∷◌, Float, Result}
use Rattle.std.specs.Float.Ieee.{neg, of_bits, round}
use Rattle.float.specs.Constant.{decimal}
use Rattle.float.specs.Ops.{◌⊕◌, ◌⊖◌, ◌⊗◌, ◌⊘◌, bits}
use Rattle.float.specs.Trig.{sin_of, cos_of}
use Rattle.refusal.specs.Refusals.{first_of, ◌when◌, answer}
use Rattle.refusal.specs.declared.Refusal.{Refusal}
use Rattle.refusal.specs.declared.Refusal.TheVariants.{MomentRange}
use Rattle.moment.specs.Time.{seconds_of, tau_of}
use Rattle.moment.specs.Range.{taken, moment_count}
use Rattle.moment.specs.declared.Moment.{Moment}
use Rattle.frame.specs.Rotation.{rotated_of, turn_at}
use Rattle.roots.specs.Root.{sqrt_of}
use Rattle.frame.specs.declared.State.{State}
use Rattle.float.specs.declared.trig.SinCos.{SinCos}
use Rattle.orbit.specs.declared.Elements.{Elements}
use Rattle.orbit.specs.declared.Rates.{Rates}

-- the Earth's gravity in m^3/s^2, its second zonal harmonic, and its radius in m
abbrev pub mu : Float
mu = decimal 398600441800000 0

pub mu_bits : bits 0x42f6a8665bda5400 ≡ mu
unfolding of_bits round
mu_bits = refl

abbrev pub j2 : Float
j2 = decimal 10826263 10

abbrev pub re : Float
re = decimal 6378137 0

unfoldable pub rates_of : Elements → Rates
rates_of e =
    let n = sqrt_of (mu ⊘ (e.a ⊗ e.a ⊗ e.a)) in
    let q = re ⊘ e.a in
    record {
      n = n;
      v = sqrt_of (mu ⊘ e.a);
      d_raan = neg (decimal 15 1) ⊗ j2 ⊗ (q ⊗ q) ⊗ n ⊗ cos_of e.i;
      sin_i = sin_of e.i;
      cos_i = cos_of e.i;
    }

-- the inertial state, from sine and cosine of u and of the node
unfoldable pub plane_of : Elements → Rates → SinCos → SinCos → State
plane_of e k u o =
    let x = e.a ⊗ u.cos in
    let y = e.a ⊗ u.sin in
    let vx = neg k.v ⊗ u.sin in
    let vy = k.v ⊗ u.cos in
    record {
      x = x ⊗ o.cos ⊖ y ⊗ k.cos_i ⊗ o.sin;
      y = x ⊗ o.sin ⊕ y ⊗ k.cos_i ⊗ o.cos;
      z = y ⊗ k.sin_i;
      vx = vx ⊗ o.cos ⊖ vy ⊗ k.cos_i ⊗ o.sin;
      vy = vx ⊗ o.sin ⊕ vy ⊗ k.cos_i ⊗ o.cos;
      vz = vy ⊗ k.sin_i;
    }

abbrev pub sin_cos_of : Float → SinCos
sin_cos_of v = record { sin = sin_of v; cos = cos_of v }

unfoldable pub propagated_of : Elements → Rates → Float → SinCos → State
propagated_of e k tau turn =
    rotated_of turn.sin turn.cos (plane_of e k (sin_cos_of (e.u0 ⊕ k.n ⊗ tau)) (sin_cos_of (e.raan0 ⊕ k.d_raan ⊗ tau)))

-- The Rust's text in one piece: a, i, node and u at the epoch, tau, and sine and cosine of the rotation
unfoldable pub ecef_at : (a i raan0 u0 tau : Float) (turn : SinCos) → State
ecef_at a i raan0 u0 tau turn =
    let n = sqrt_of (mu ⊘ (a ⊗ a ⊗ a)) in
    let v = sqrt_of (mu ⊘ a) in
    let q = re ⊘ a in
    let d = neg (decimal 15 1) ⊗ j2 ⊗ (q ⊗ q) ⊗ n ⊗ cos_of i in
    let raan = raan0 ⊕ d ⊗ tau in
    let u = u0 ⊕ n ⊗ tau in
    let x = a ⊗ cos_of u in
    let y = a ⊗ sin_of u in
    let vx = neg v ⊗ sin_of u in
    let vy = v ⊗ cos_of u in
    rotated_of turn.sin turn.cos record {
      x = x ⊗ cos_of raan ⊖ y ⊗ cos_of i ⊗ sin_of raan;
      y = x ⊗ sin_of raan ⊕ y ⊗ cos_of i ⊗ cos_of raan;
      z = y ⊗ sin_of i;
      vx = vx ⊗ cos_of raan ⊖ vy ⊗ cos_of i ⊗ sin_of raan;
      vy = vx ⊗ sin_of raan ⊕ vy ⊗ cos_of i ⊗ cos_of raan;
      vz = vy ⊗ sin_of i;
    }

-- what is worked out once per orbit is the Rust's
pub hoisted : (e : Elements) (tau : Float) (turn : SinCos) → propagated_of e (rates_of e) tau turn ≡ ecef_at e.a e.i e.raan0 e.u0 tau turn
unfolding propagated_of rates_of plane_of ecef_at
hoisted e tau turn = refl

-- the rotation at a moment
abbrev pub turn_of : Moment → SinCos
turn_of m = turn_at (seconds_of m.seconds) m.nanos

unfoldable pub propagate_ecef_of : (a i raan0 u0 : Float) (epoch tOrbit tRotate : Moment) → Result State Refusal
propagate_ecef_of a i raan0 u0 epoch tOrbit tRotate =
    answer (first_of ((MomentRange when not (taken epoch && taken tOrbit && taken tRotate)) ∷ []))
    (ecef_at a i raan0 u0 (tau_of (moment_count tOrbit) (moment_count epoch)) (turn_of tRotate))

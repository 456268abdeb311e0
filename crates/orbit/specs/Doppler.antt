-- The received frequency, in the Rust's order.
use Rattle.std.specs.Prelude.{◌≡◌, ℕ, cond, not, ◌&&◌, [], ◌∷◌, Float, Option, Result, Ok, Err}
use Rattle.std.specs.Float.Ieee.{neg, lt, to_signed}
use Rattle.std.specs.Float.{nan}
use Rattle.float.specs.Constant.{decimal}
use Rattle.float.specs.Ops.{◌⊕◌, ◌⊖◌, ◌⊗◌, ◌⊘◌, one}
use Rattle.float.specs.declared.trig.SinCos.{SinCos}
use Rattle.roots.specs.Root.{sqrt_of}
use Rattle.refusal.specs.Refusals.{first_of, ◌when◌, answer, unless}
use Rattle.refusal.specs.declared.Refusal.{Refusal}
use Rattle.refusal.specs.declared.Refusal.TheVariants.{MomentRange, FarMoment}
use Rattle.moment.specs.Time.{seconds_of, nanos_of, moved_of, over_of, tau_of, tau_millis_of, million}
use Rattle.moment.specs.Range.{taken, moment_count}
use Rattle.moment.specs.declared.Moment.{Moment}
use Rattle.frame.specs.declared.State.{State}
use Rattle.frame.specs.declared.Vec3.{Vec3}
use Rattle.orbit.specs.Orbit.{mu, rates_of, propagated_of, ecef_at, hoisted, turn_of}
use Rattle.orbit.specs.declared.Elements.{Elements}
use Rattle.orbit.specs.declared.doppler.DfPoly.{DfPoly}
use Rattle.orbit.specs.declared.doppler.Station.{Station}
use Rattle.orbit.specs.declared.doppler.Sight.{Sight}

unfoldable pub dot_of : (ax ay az bx by bz : Float) → Float
dot_of ax ay az bx by bz = ax ⊗ bx ⊕ ay ⊗ by ⊕ az ⊗ bz

-- the speed of light, m/s
abbrev pub light : Float
light = decimal 299792458 0

-- -MU over the radius
unfoldable pub potential_of : Float → Float → Float → Float
potential_of x y z = neg mu ⊘ sqrt_of (dot_of x y z x y z)

-- dt_rel in nanoseconds
unfoldable pub drift_of : State → Float
drift_of s = neg (decimal 2 0) ⊗ dot_of s.x s.y s.z s.vx s.vy s.vz ⊘ (light ⊗ light) ⊗ decimal 1000000000 0

abbrev pub dist_of : State → Vec3 → Float
dist_of s p = sqrt_of (dot_of (s.x ⊖ p.x) (s.y ⊖ p.y) (s.z ⊖ p.z) (s.x ⊖ p.x) (s.y ⊖ p.y) (s.z ⊖ p.z))

-- the shift by motion and potential, and the bias; the Rust divides by 1 − v·n/c, so a satellite going away is heard higher
abbrev pub shifted_of : State → Vec3 → Float → Float → Float → Float
shifted_of s p uRec bias centre =
    let gamma = sqrt_of (one ⊖ dot_of s.vx s.vy s.vz s.vx s.vy s.vz ⊘ (light ⊗ light)) in
    let approach = dot_of s.vx s.vy s.vz (s.x ⊖ p.x) (s.y ⊖ p.y) (s.z ⊖ p.z) ⊘ dist_of s p in
    let term = one ⊕ (potential_of s.x s.y s.z ⊖ uRec) ⊘ (light ⊗ light) in
    centre ⊗ (gamma ⊘ (one ⊖ approach ⊘ light)) ⊗ term ⊖ centre ⊕ bias

unfoldable pub received_of : (s : State) (p : Vec3) (uRec near bias centre : Float) → Float
received_of s p uRec near bias centre = cond (lt (dist_of s p) one) (centre ⊕ near) (shifted_of s p uRec bias centre)

-- of the two adjusted moments, the first that is too far
abbrev pub far_moments : ℕ → ℕ → Option Refusal
far_moments tAdj tCorr = first_of ((FarMoment when over_of tAdj) ∷ (FarMoment when over_of tCorr) ∷ [])

-- the adjusted moments, in nanoseconds: t_obs moved by dt, and that moved by dt_rel
abbrev pub adjusted_of : ℕ → Float → ℕ
adjusted_of t dt = moved_of t 1000 (to_signed 63 (dt ⊗ million))

abbrev pub corrected_of : ℕ → State → ℕ
corrected_of t s = moved_of t 1 (to_signed 63 (drift_of s))

-- what is worked out before: an orbit's rates, and the potential at the receiver
unfoldable pub sight_of : Station → Elements → Sight
sight_of g e = record { station = g; e = e; k = rates_of e; u_rec = potential_of g.rec_ecef.x g.rec_ecef.y g.rec_ecef.z }

abbrev pub epoch_count : Station → ℕ
epoch_count g = nanos_of g.epoch.secs g.epoch.nanos

-- a prediction from what is worked out before, and from the rotation at t_obs
unfoldable pub predicted_at : (v : Sight) (t : ℕ) (turn : SinCos) (dt near bias : Float) → Result Float Refusal
predicted_at v t turn dt near bias =
    let g = v.station in
    let tAdj = adjusted_of t dt in
    let tCorr = corrected_of tAdj (propagated_of v.e v.k (tau_of tAdj (epoch_count g)) turn) in
    answer (far_moments tAdj tCorr)
    (received_of (propagated_of v.e v.k (tau_of tCorr (epoch_count g)) turn) g.rec_ecef v.u_rec near bias g.center_freq)

-- The Rust's text, over counts of nanoseconds, with the rotation at t_obs; `near` is added to the centre within a metre
unfoldable pub predicted_of : (g : Station) (e : Elements) (t : ℕ) (turn : SinCos) (dt near bias : Float) → Result Float Refusal
predicted_of g e t turn dt near bias =
    let p = g.rec_ecef in
    let tAdj = adjusted_of t dt in
    let tCorr = corrected_of tAdj (ecef_at e.a e.i e.raan0 e.u0 (tau_of tAdj (epoch_count g)) turn) in
    answer (far_moments tAdj tCorr)
    (received_of (ecef_at e.a e.i e.raan0 e.u0 (tau_of tCorr (epoch_count g)) turn) p (potential_of p.x p.y p.z) near bias g.center_freq)

-- what is worked out before is the Rust's
pub predicted_hoisted : (g : Station) (e : Elements) (t : ℕ) (turn : SinCos) (dt near bias : Float) → predicted_at (sight_of g e) t turn dt near bias ≡ predicted_of g e t turn dt near bias
unfolding sight_of predicted_at predicted_of
predicted_hoisted g e t turn dt near bias = simp hoisted

-- and so over any sight with its own rates and potential
pub predicted_seen : (v : Sight) (t : ℕ) (turn : SinCos) (dt near bias : Float) → v ≡ sight_of v.station v.e → predicted_at v t turn dt near bias ≡ predicted_of v.station v.e t turn dt near bias
predicted_seen v t turn dt near bias h = rw (← h) at (predicted_hoisted v.station v.e t turn dt near bias)

-- a station as a caller gives it
abbrev pub station_at : Moment → Float → Vec3 → Station
station_at epoch centre p = record { epoch = record { secs = seconds_of epoch.seconds; nanos = epoch.nanos }; center_freq = centre; rec_ecef = p }

unfoldable pub predict_frequency_of : (a i raan0 u0 : Float) (epoch tObs : Moment) (dt df centre : Float) (p : Vec3) → Result Float Refusal
predict_frequency_of a i raan0 u0 epoch tObs dt df centre p =
    unless (first_of ((MomentRange when not (taken epoch && taken tObs)) ∷ []))
    (predicted_of (station_at epoch centre p) (record { a = a; i = i; raan0 = raan0; u0 = u0 }) (moment_count tObs) (turn_of tObs) dt df df)

unfoldable pub bias_of : DfPoly → Float → Float
bias_of d tau = d.0 ⊕ d.1 ⊗ tau ⊕ d.2 ⊗ tau ⊗ tau

unfoldable pub predict_frequency_poly_of : (a i raan0 u0 : Float) (epoch tObs : Moment) (dt : Float) (d : DfPoly) (tRef : Moment) (centre : Float) (p : Vec3) → Result Float Refusal
predict_frequency_poly_of a i raan0 u0 epoch tObs dt d tRef centre p =
    unless (first_of ((MomentRange when not (taken epoch && taken tObs && taken tRef)) ∷ []))
    (predicted_of (station_at epoch centre p) (record { a = a; i = i; raan0 = raan0; u0 = u0 }) (moment_count tObs) (turn_of tObs) dt d.0 (bias_of d (tau_millis_of (moment_count tObs) (moment_count tRef))))

-- a prediction's frequency; NaN, where it is refused
abbrev pub frequency_of : Result Float Refusal → Float
frequency_of (Ok v) = v
frequency_of (Err r) = nan

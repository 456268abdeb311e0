-- The ways out of the calls that check their moments. Assumes nothing.
use Rattle.std.proofs.Common.{◌≡◌, false, Result, Ok, Err, ap}
use lib.Ieee.{Float}
use Rattle.float.specs.declared.trig.SinCos.{SinCos}
use Rattle.moment.specs.Time.{nanos_of, tau_of, tau_millis_of}
use Rattle.moment.specs.Range.{given_of, taken}
use Rattle.moment.specs.declared.Moment.{Moment}
use Rattle.moment.specs.declared.Instant.{Instant}
use Rattle.refusal.specs.declared.Refusal.{Refusal}
use Rattle.refusal.specs.declared.Refusal.TheVariants.{MomentRange}
use Rattle.moment.proofs.Ranges.{Is, at_is, outside}
use Rattle.frame.specs.Rotation.{turn_at}
use Rattle.frame.specs.declared.State.{State}
use Rattle.frame.specs.declared.Vec3.{Vec3}
use Rattle.orbit.specs.Orbit.{ecef_at, propagate_ecef_of}
use Rattle.orbit.specs.Doppler.{predicted_of, bias_of, predict_frequency_of, predict_frequency_poly_of}
use Rattle.orbit.specs.declared.doppler.DfPoly.{DfPoly}
use Rattle.orbit.specs.declared.doppler.Station.{Station}

abbrev pub Refuses : Moment → Refusal → Type 0
Refuses m r = Err r ≡ given_of m.seconds m.nanos

abbrev pub Takes : Moment → Instant → Type 0
Takes m i = Ok i ≡ given_of m.seconds m.nanos

no : (m : Moment) (r : Refusal) → Refuses m r → (r ≡ MomentRange) × (taken m ≡ false)
no m r h = outside m.seconds m.nanos r h

is : (m : Moment) (i : Instant) → Takes m i → Is m.seconds m.nanos i.secs i.nanos
is m i h = at_is m.seconds m.nanos i h

abbrev pub from : Instant → Float → Vec3 → Station
from e centre p = record { epoch = e; center_freq = centre; rec_ecef = p }

module _ (a i raan0 u0 : Float) (epoch t : Moment) (dt df centre : Float) (p : Vec3) where
  pub epoch_out : (x : Refusal) → Refuses epoch x → Err x ≡ predict_frequency_of a i raan0 u0 epoch t dt df centre p
  unfolding predict_frequency_of
  epoch_out x h = simp ((no epoch x h).0, (no epoch x h).1)

  pub t_out : (x : Refusal) (e : Instant) → Takes epoch e → Refuses t x → Err x ≡ predict_frequency_of a i raan0 u0 epoch t dt df centre p
  unfolding predict_frequency_of
  t_out x e g h = simp ((is epoch e g).yes, (no t x h).0, (no t x h).1)

  pub predicted : (e s : Instant) (r : Result Float Refusal) → Takes epoch e → Takes t s
      → r ≡ predicted_of (from e centre p) (record { a = a; i = i; raan0 = raan0; u0 = u0 }) (nanos_of s.secs s.nanos) (turn_at s.secs s.nanos) dt df df
      → r ≡ predict_frequency_of a i raan0 u0 epoch t dt df centre p
  unfolding predict_frequency_of predicted_of
  predicted e s r g h q =
      let x = is epoch e g in
      let y = is t s h in
      simp (x.yes, y.yes) (simp (x.secs_is, x.nanos_is, y.secs_is, y.nanos_is) at q)

module _ (a i raan0 u0 : Float) (epoch t : Moment) (dt : Float) (d : DfPoly) (ref : Moment) (centre : Float) (p : Vec3) where
  pub poly_epoch_out : (x : Refusal) → Refuses epoch x → Err x ≡ predict_frequency_poly_of a i raan0 u0 epoch t dt d ref centre p
  unfolding predict_frequency_poly_of
  poly_epoch_out x h = simp ((no epoch x h).0, (no epoch x h).1)

  pub poly_t_out : (x : Refusal) (e : Instant) → Takes epoch e → Refuses t x → Err x ≡ predict_frequency_poly_of a i raan0 u0 epoch t dt d ref centre p
  unfolding predict_frequency_poly_of
  poly_t_out x e g h = simp ((is epoch e g).yes, (no t x h).0, (no t x h).1)

  pub poly_ref_out : (x : Refusal) (e s : Instant) → Takes epoch e → Takes t s → Refuses ref x → Err x ≡ predict_frequency_poly_of a i raan0 u0 epoch t dt d ref centre p
  unfolding predict_frequency_poly_of
  poly_ref_out x e s g k h = simp ((is epoch e g).yes, (is t s k).yes, (no ref x h).0, (no ref x h).1)

  pub poly_predicted : (e s f : Instant) (tau bias : Float) (r : Result Float Refusal) → Takes epoch e → Takes t s → Takes ref f
      → tau ≡ tau_millis_of (nanos_of s.secs s.nanos) (nanos_of f.secs f.nanos) → bias ≡ bias_of d tau
      → r ≡ predicted_of (from e centre p) (record { a = a; i = i; raan0 = raan0; u0 = u0 }) (nanos_of s.secs s.nanos) (turn_at s.secs s.nanos) dt d.0 bias
      → r ≡ predict_frequency_poly_of a i raan0 u0 epoch t dt d ref centre p
  unfolding predict_frequency_poly_of predicted_of
  poly_predicted e s f tau bias r g h k m b q =
      let x = is epoch e g in
      let y = is t s h in
      let z = is ref f k in
      simp (x.yes, y.yes, z.yes) (simp (b, m, x.secs_is, x.nanos_is, y.secs_is, y.nanos_is, z.secs_is, z.nanos_is) at q)

module _ (a i raan0 u0 : Float) (epoch t rotate : Moment) where
  pub ecef_epoch_out : (x : Refusal) → Refuses epoch x → Err x ≡ propagate_ecef_of a i raan0 u0 epoch t rotate
  unfolding propagate_ecef_of
  ecef_epoch_out x h = simp ((no epoch x h).0, (no epoch x h).1)

  pub ecef_t_out : (x : Refusal) (e : Instant) → Takes epoch e → Refuses t x → Err x ≡ propagate_ecef_of a i raan0 u0 epoch t rotate
  unfolding propagate_ecef_of
  ecef_t_out x e g h = simp ((is epoch e g).yes, (no t x h).0, (no t x h).1)

  pub ecef_rotate_out : (x : Refusal) (e s : Instant) → Takes epoch e → Takes t s → Refuses rotate x → Err x ≡ propagate_ecef_of a i raan0 u0 epoch t rotate
  unfolding propagate_ecef_of
  ecef_rotate_out x e s g k h = simp ((is epoch e g).yes, (is t s k).yes, (no rotate x h).0, (no rotate x h).1)

  pub ecef_at_lem : (e s f : Instant) (tau : Float) (turn : SinCos) (r : State) → Takes epoch e → Takes t s → Takes rotate f
      → tau ≡ tau_of (nanos_of s.secs s.nanos) (nanos_of e.secs e.nanos) → turn ≡ turn_at f.secs f.nanos
      → r ≡ ecef_at a i raan0 u0 tau turn
      → Ok r ≡ propagate_ecef_of a i raan0 u0 epoch t rotate
  unfolding propagate_ecef_of
  ecef_at_lem e s f tau turn r g h k m b q =
      let x = is epoch e g in
      let y = is t s h in
      let z = is rotate f k in
      simp (x.yes, y.yes, z.yes) (ap Ok (simp (b, m, x.secs_is, x.nanos_is, y.secs_is, y.nanos_is, z.secs_is, z.nanos_is) at q))

-- Inside the sums no adjusted moment is too far: dt is a difference of two moments near the range, and the correction is at
-- most 2^63 ns. Assumes nothing.
use mathlib.Core.Path.{◌≡◌, refl, ◌∙◌}
use mathlib.Core.Bool.{false}
use Prim.Native.Nat.{ℕ, suc, ◌+◌, ◌-◌, ◌*◌, ◌≤◌, ◌<◌}
use native.Mathlib.Omega.{arith}
use lib.IntN.{ℤ, pos, negsuc, nat_abs}
use lib.Signed.{mag}
use lib.Ieee.{Float, to_signed}
use lib.Ieee.Casts.{to_signed_in}
use borrow.Author.Tests.{le-ltb}
use Rattle.float.specs.Ops.{bits}
use Rattle.float.specs.declared.trig.SinCos.{SinCos}
use Rattle.moment.specs.Origin.{per_second, earliest, latest}
use Rattle.moment.specs.declared.Instant.{Instant}
use Rattle.moment.specs.Time.{nanos_of, moved_of, over_of, tau_of, tau_millis_of}
use Rattle.moment.specs.Range.{Within}
use Rattle.moment.proofs.Shifts.{shift_micros}
use Rattle.frame.specs.Rotation.{turn_at}
use Rattle.orbit.specs.declared.Elements.{Elements}
use Rattle.orbit.specs.declared.doppler.Station.{Station}
use Rattle.std.proofs.Common.{Result, Ok}
use Rattle.std.specs.Result.{IsOk}
use Rattle.refusal.specs.declared.Refusal.{Refusal}
use Rattle.orbit.specs.Orbit.{ecef_at}
use Rattle.orbit.specs.Doppler.{adjusted_of, corrected_of, drift_of, epoch_count, predicted_of, frequency_of}
use Rattle.approach.specs.Sums.{prediction_at, Shifted}
use Rattle.approach.specs.Turns.{reach, Shift}

-- ---- a moment moved by a little

pub record Near (b t n : ℕ) : Type 0 where
  pub low : t ≤ n + b
  pub high : n ≤ t + b

back : (t m b : ℕ) → m ≤ b → Near b t (t - m)
back t m b h = record { low = omega arith; high = omega arith }

moved : (b t unit : ℕ) (z : ℤ) → nat_abs z * unit ≤ b → Near b t (moved_of t unit z)
unfolding moved_of
moved b t unit (pos n) h = record { low = omega arith; high = omega arith }
moved b t unit (negsuc n) h = back t (suc n * unit) b h

size : (z : ℤ) → mag z < 9223372036854775808 → nat_abs z * 1 ≤ 9223372036854775808
size (pos n) h = omega arith
size (negsuc n) h = omega arith

not_over : (n : ℕ) → earliest * per_second ≤ n → n ≤ latest * per_second → over_of n ≡ false
unfolding over_of
not_over n l h = simp (le-ltb n (earliest * per_second) l, le-ltb (latest * per_second) n h)

-- ---- a difference of two moments near the range

pub shift : (p o : Instant) {dt : Float} → Within reach p.secs p.nanos → Within reach o.secs o.nanos
    → dt ≡ tau_millis_of (nanos_of p.secs p.nanos) (nanos_of o.secs o.nanos) → Shift dt
shift p o v w e = record { to = nanos_of p.secs p.nanos; from = nanos_of o.secs o.nanos; is = e; after = omega arith; before = omega arith }

-- ---- a sum's predictions

module _ (g : Station) (e : Elements) (dt : Float) (t : Instant) where
  -- none is refused
  pub never_far : Shift dt → Within 0 t.secs t.nanos → prediction_at g e dt t ≡ Ok (frequency_of (prediction_at g e dt t))
  unfolding prediction_at predicted_of
  never_far s w =
      let from = epoch_count g in
      let at = nanos_of t.secs t.nanos in
      let turn = turn_at t.secs t.nanos in
      let n = adjusted_of at dt in
      let first = ecef_at e.a e.i e.raan0 e.u0 (tau_of n from) turn in
      let m = corrected_of n first in
      let micros = rw (← s.is) at (shift_micros s.to s.from s.after s.before) in
      let a : Near 4000000000000000000 at n = moved 4000000000000000000 at 1000 _ (omega (arith, micros)) in
      let b : Near 9223372036854775808 n m = moved 9223372036854775808 n 1 (to_signed 63 (drift_of first)) (size (to_signed 63 (drift_of first)) (to_signed_in 63 (drift_of first))) in
      simp (not_over n (omega (arith, a.low)) (omega (arith, a.high)), not_over m (omega (arith, a.low, b.low)) (omega (arith, a.high, b.high)))

module _ (g : Station) (e : Elements) (dt : Float) (t : Instant) (turn : SinCos) (h : turn ≡ turn_at t.secs t.nanos) where
  predicts : (r : Result Float Refusal) → r ≡ predicted_of g e (nanos_of t.secs t.nanos) turn dt (bits 0) (bits 0) → r ≡ prediction_at g e dt t
  unfolding prediction_at
  predicts r q = rw h at q

  pub shifted : (f : Float) → Ok f ≡ predicted_of g e (nanos_of t.secs t.nanos) turn dt (bits 0) (bits 0) → Shifted f (prediction_at g e dt t)
  shifted f q = record { is = predicts (Ok f) q }

  pub answered : Shift dt → Within 0 t.secs t.nanos → (r : Result Float Refusal) → r ≡ predicted_of g e (nanos_of t.secs t.nanos) turn dt (bits 0) (bits 0) → IsOk r
  answered s w r q = rw (predicts r q ∙ never_far g e dt t s w) refl

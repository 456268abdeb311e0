-- The ways out of `predict`. Assumes nothing.
use mathlib.Core.Path.{◌≡◌}
use mathlib.Core.Bool.{Bool, true, false}
use Prim.Native.Nat.{ℕ}
use lib.Ieee.{Float, to_signed}
use Rattle.float.specs.declared.trig.SinCos.{SinCos}
use Rattle.moment.specs.Time.{moved_of, over_of, tau_of, million_bits}
use Rattle.float.specs.Ops.{◌⊗◌, bits}
use Rattle.frame.specs.declared.State.{State}
use Rattle.orbit.specs.Orbit.{propagated_of}
use Rattle.orbit.specs.Doppler.{adjusted_of, drift_of, received_of, epoch_count, predicted_at}
use Rattle.orbit.specs.declared.doppler.Sight.{Sight}
use Rattle.std.proofs.Common.{Ok, Err}
use Rattle.refusal.specs.declared.Refusal.TheVariants.{FarMoment}

-- the code's literal
pub adjusted : (t n : ℕ) (dt : Float) → n ≡ moved_of t 1000 (to_signed 63 (dt ⊗ bits 0x412e848000000000)) → n ≡ adjusted_of t dt
adjusted t n dt h = rw million_bits at h

module _ (v : Sight) (t : ℕ) (turn : SinCos) (dt near bias : Float) where
  pub first_over : (o : Bool) (n : ℕ) → n ≡ adjusted_of t dt → o ≡ over_of n → o ≡ true → Err FarMoment ≡ predicted_at v t turn dt near bias
  unfolding predicted_at
  first_over o n m x y = simp (← m, ← x, y)

  pub second_over : (o q : Bool) (n l : ℕ) (tau d : Float) (s : State) → n ≡ adjusted_of t dt → o ≡ over_of n → o ≡ false
      → tau ≡ tau_of n (epoch_count v.station) → s ≡ propagated_of v.e v.k tau turn → d ≡ drift_of s → l ≡ moved_of n 1 (to_signed 63 d) → q ≡ over_of l → q ≡ true
      → Err FarMoment ≡ predicted_at v t turn dt near bias
  unfolding predicted_at
  second_over o q n l tau d s m x y a b c g z w = simp (← m, ← x, y, ← a, ← b, ← c, ← g, ← z, w)

  pub accepted : (o q : Bool) (n l : ℕ) (tau d : Float) (s : State) (tau2 : Float) (s2 : State) (f : Float) → n ≡ adjusted_of t dt → o ≡ over_of n → o ≡ false
      → tau ≡ tau_of n (epoch_count v.station) → s ≡ propagated_of v.e v.k tau turn → d ≡ drift_of s → l ≡ moved_of n 1 (to_signed 63 d) → q ≡ over_of l → q ≡ false
      → tau2 ≡ tau_of l (epoch_count v.station) → s2 ≡ propagated_of v.e v.k tau2 turn → f ≡ received_of s2 v.station.rec_ecef v.u_rec near bias v.station.center_freq
      → Ok f ≡ predicted_at v t turn dt near bias
  unfolding predicted_at
  accepted o q n l tau d s tau2 s2 f m x y a b c g z w a2 b2 r = simp (← m, ← x, y, ← a, ← b, ← c, ← g, ← z, w, ← a2, ← b2, ← r)

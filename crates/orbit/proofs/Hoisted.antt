-- What is worked out before a prediction is what the Rust works out within it. Assumes nothing.
use mathlib.Core.Path.{◌≡◌, refl, sym, ap, ap₂, subst, ◌∙◌}
use Prim.Native.Nat.{ℕ}
use lib.Ieee.{Float}
use Rattle.float.specs.Trig.{sin_of, cos_of}
use Rattle.float.specs.declared.trig.SinCos.{SinCos}
use Rattle.moment.specs.Time.{Sound}
use Rattle.frame.specs.Julian.{jd_at}
use Rattle.frame.specs.Rotation.{theta_of, turn_at}
use Rattle.frame.specs.declared.State.{State}
use Rattle.orbit.specs.Orbit.{rates_of, propagated_of, ecef_at, hoisted}
use Rattle.orbit.specs.Doppler.{potential_of, sight_of, predicted_at, predicted_of, predicted_hoisted}
use Rattle.orbit.specs.declared.Elements.{Elements}
use Rattle.orbit.specs.declared.Rates.{Rates}
use Rattle.orbit.specs.declared.doppler.Station.{Station}
use Rattle.orbit.specs.declared.doppler.Sight.{Sight}
use Rattle.std.proofs.Common.{Result}
use Rattle.refusal.specs.declared.Refusal.{Refusal}

pub turn_is : (turn : SinCos) (jd : Float) (secs nanos : ℕ) → jd ≡ jd_at secs nanos → (turn.sin ≡ sin_of (theta_of jd)) × (turn.cos ≡ cos_of (theta_of jd)) → turn ≡ turn_at secs nanos
turn_is turn jd secs nanos h p =
    ap₂ (λ (x y : Float). record { sin = x; cos = y }) (p.0 ∙ ap (λ (x : Float). sin_of (theta_of x)) h) (p.1 ∙ ap (λ (x : Float). cos_of (theta_of x)) h)

pub propagated_at : (e : Elements) (k : Rates) (tau : Float) (turn : SinCos) (r : State) → k ≡ rates_of e → r ≡ propagated_of e k tau turn → r ≡ ecef_at e.a e.i e.raan0 e.u0 tau turn
propagated_at e k tau turn r j q = (simp j at q) ∙ hoisted e tau turn

pub predicted_at_lem : (g : Station) (e : Elements) (t : ℕ) (turn turn2 : SinCos) (dt near bias : Float) (v : Sight) (r : Result Float Refusal)
    → turn ≡ turn2 → v ≡ sight_of g e → r ≡ predicted_at v t turn dt near bias → r ≡ predicted_of g e t turn2 dt near bias
predicted_at_lem g e t turn turn2 dt near bias v r h j q = (simp (h, j) at q) ∙ predicted_hoisted g e t turn2 dt near bias

pub sight_is : (g : Station) (e : Elements) (k : Rates) (u : Float) → k ≡ rates_of e → u ≡ potential_of g.rec_ecef.x g.rec_ecef.y g.rec_ecef.z
    → ◌≡◌ {A = Sight} (record { station = g; e = e; k = k; u_rec = u }) (sight_of g e)
unfolding sight_of
sight_is g e k u h j = simp (h, j)

-- ---- a sight's station and orbit are the ones given, and it is theirs

module _ (g : Station) (e : Elements) {v : Sight} (is : v ≡ sight_of g e) where
  pub sight_kept : (v.station ≡ g) × (v.e ≡ e)
  unfolding sight_of
  sight_kept = (ap (λ (w : Sight). w.station) is, ap (λ (w : Sight). w.e) is)

  pub sight_own : v ≡ sight_of v.station v.e
  unfolding sight_of
  sight_own = subst (λ (w : Sight). w ≡ sight_of w.station w.e) (sym is) refl

  pub sight_rates : v.k ≡ rates_of e
  unfolding sight_of
  sight_rates = ap (λ (w : Sight). w.k) is

  -- its epoch is as sound
  pub sight_sound : Sound g.epoch.secs g.epoch.nanos → Sound v.station.epoch.secs v.station.epoch.nanos
  sight_sound w = rw sight_kept.0 w

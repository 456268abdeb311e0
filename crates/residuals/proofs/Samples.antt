-- What the calls of `predict_sample` make of a prediction, and those of `rotations` of the rotations. Assumes nothing.
use mathlib.Core.Path.{◌≡◌, refl, sym, ap, ◌∙◌}
use mathlib.Core.Bool.{true}
use mathlib.Core.List.{List, [], ◌∷◌, ◌++◌, append-nil}
use Prim.Native.Nat.{ℕ, zero, suc, ◌+◌, ◌*◌, ◌<◌, ◌≤◌}
use native.Mathlib.Nat.{not-suc-le-zero, le_of_suc-le-suc}
use native.Mathlib.Numerals.{add-one}
use native.Mathlib.Decide.{ℕ_discrete}
use native.Mathlib.Omega.{arith}
use lib.IntN.{ℤ, pos}
use lib.ListN.{length, get_or, set, take, drop, length-set}
use lib.Seq.{get_or-set_same, get_or-set_other, drop-cons, drop-length}
use lib.Ieee.{Float, nan}
use Rattle.float.specs.declared.trig.SinCos.{SinCos}
use Rattle.float.specs.Trig.{sin_of, cos_of}
use Rattle.frame.specs.Julian.{jd_at}
use Rattle.frame.specs.Rotation.{theta_of}
use Rattle.moment.specs.Origin.{count1957, count2057, march1956, march2096}
use Rattle.moment.specs.Time.{nanos_of, tau_millis_of}
use Rattle.moment.specs.Sample.{time_in_range, Timed, instant_at}
use Rattle.moment.specs.declared.Instant.{Instant}
use Rattle.moment.proofs.Samples.{ranged, of_nanos}
use Rattle.orbit.specs.Doppler.{predicted_of}
use Rattle.orbit.specs.declared.Elements.{Elements}
use Rattle.orbit.specs.declared.doppler.Station.{Station}
use Rattle.std.proofs.Common.{Result}
use Rattle.refusal.specs.declared.Refusal.{Refusal}
use Rattle.residuals.specs.Samples.{count_at, counts_at, instant_of, nanos_at, rotation_at, turn_in, DatedTimes, Rotations}
use Rattle.residuals.specs.Residuals.{bias_at, near_of, prediction_of}
use Rattle.residuals.specs.declared.Bias.{Bias}
use Rattle.residuals.proofs.Laws.{stored}

-- a prediction over the sight of a station and an orbit is theirs
pub seen_prediction : (g : Station) (e : Elements) {s : Station} {o : Elements} (times : List ℕ) (dt : Float) (b : Bias) (f k : ℕ) (y : Result Float Refusal)
    → (s ≡ g) × (o ≡ e) → y ≡ prediction_of s times o dt b f k → y ≡ prediction_of g times e dt b f k
seen_prediction g e times dt b f k y h q = rw (h.0, h.1) at q

-- the moments t and s, the bias u, what holds within a metre w, the rotation r and the prediction y, as the calls give them
pub predicts : (times : List ℕ) (g : Station) (e : Elements) (dt : Float) (b : Bias) (f k : ℕ) (t s : Instant) (u w : Float) (r : SinCos) (y : Result Float Refusal)
    → t ≡ instant_of (get_or times k 0) → s ≡ instant_of (get_or times f 0)
    → u ≡ bias_at b (tau_millis_of (nanos_of t.secs t.nanos) (nanos_of s.secs s.nanos)) → w ≡ near_of b → r ≡ rotation_at (get_or times k 0)
    → y ≡ predicted_of g e (nanos_of t.secs t.nanos) r dt w u
    → y ≡ prediction_of g times e dt b f k
unfolding prediction_of nanos_at
predicts times g e dt b f k t s u w r y et es eu ew er ey = rw (er, ew, eu, et, es) at ey

-- ---- the loop that writes the rotations

-- those of the first k samples are written
pub record Written (times : List ℕ) (turns₀ : List Float) (k : ℕ) (turns : List Float) : Type 0 where
  pub long : length turns ≡ length turns₀
  pub done : (j : ℕ) → j < k → turn_in turns j ≡ rotation_at (get_or times j 0)

pub none_written : (times : List ℕ) (turns : List Float) → Written times turns 0 turns
none_written times turns = record { long = refl; done = λ j h. absurd (not-suc-le-zero h) }

-- one more, r
pub one_written : {times : List ℕ} {turns₀ turns : List Float} {k : ℕ} (r : SinCos) → Written times turns₀ k turns → 2 * k + 1 < length turns₀ → r ≡ rotation_at (get_or times k 0)
    → Written times turns₀ (k + 1) (set (set turns (2 * k) r.sin) (2 * k + 1) r.cos)
one_written {times} {turns₀} {turns} {k} r w h e = record { long = simp length-set w.long; done = λ j l. go j (ℕ_discrete j k) l }
  where
    other : (j : ℕ) (v u : Float) → (j ≡ 2 * k → ⊥) → (j ≡ 2 * k + 1 → ⊥) → get_or (set (set turns (2 * k) v) (2 * k + 1) u) j nan ≡ get_or turns j nan
    other j v u p q = rw (get_or-set_other (set turns (2 * k) v) (2 * k + 1) j u nan q, get_or-set_other turns (2 * k) j v nan p)

    sine : get_or (set (set turns (2 * k) r.sin) (2 * k + 1) r.cos) (2 * k) nan ≡ r.sin
    sine = rw (get_or-set_other (set turns (2 * k) r.sin) (2 * k + 1) (2 * k) r.cos nan (λ q. omega arith), get_or-set_same turns (2 * k) r.sin nan (omega (arith, w.long)))

    cosine : get_or (set (set turns (2 * k) r.sin) (2 * k + 1) r.cos) (2 * k + 1) nan ≡ r.cos
    cosine = get_or-set_same (set turns (2 * k) r.sin) (2 * k + 1) r.cos nan (simp length-set (omega (arith, w.long)))

    go : (j : ℕ) → Dec (j ≡ k) → j < k + 1 → turn_in (set (set turns (2 * k) r.sin) (2 * k + 1) r.cos) j ≡ rotation_at (get_or times j 0)
    go j (yes p) l = rw (p, sine, cosine) e
    go j (no p) l = rw (other (2 * j) _ _ (λ q. p (omega arith)) (λ q. omega arith), other (2 * j + 1) _ _ (λ q. omega arith) (λ q. p (omega arith))) (w.done j (omega arith))

pub all_written : {times : List ℕ} {turns₀ turns : List Float} {k : ℕ} → length times ≤ k → 2 * length times ≤ length turns₀ → Written times turns₀ k turns → Rotations times turns
all_written h l w = record { room = omega (arith, w.long); each = λ j q. w.done j (omega arith) }

-- ---- a sample's rotation

pub dated : (n : ℕ) → count1957 ≤ n → n < count2057 → (march1956 ≤ (instant_of n).secs) × ((instant_of n).secs < march2096)
unfolding instant_of
dated n h l = (omega arith, omega arith)

pub rotated : (n : ℕ) (t : Instant) (jd : Float) (r : SinCos) → t ≡ instant_of n → jd ≡ jd_at t.secs t.nanos → r.sin ≡ sin_of (theta_of jd) → r.cos ≡ cos_of (theta_of jd) → r ≡ rotation_at n
unfolding rotation_at
rotated n t jd r et ej es ec = rw (← et, ← ej, ← es, ← ec)

-- ---- sample times as counts

pub counts_length : (ts : List ℤ) → length (counts_at ts) ≡ length ts
unfolding counts_at
counts_length [] = refl
counts_length (t ∷ ts) = ap suc (counts_length ts)

pub counts_get : (ts : List ℤ) (k : ℕ) → k < length ts → get_or (counts_at ts) k 0 ≡ count_at (get_or ts k (pos 0))
unfolding counts_at
counts_get [] k h = absurd (not-suc-le-zero h)
counts_get (t ∷ ts) zero h = refl
counts_get (t ∷ ts) (suc k) h = counts_get ts k (le_of_suc-le-suc h)

-- the counts of times in range are in range, and stand for the same moments
pub counts_dated : (ts : List ℤ) → Timed ts → DatedTimes (counts_at ts)
counts_dated ts w = record { each = λ k h. one k (rw counts_length at h) }
  where
    one : (k : ℕ) → k < length ts → (count1957 ≤ get_or (counts_at ts) k 0) × (get_or (counts_at ts) k 0 < count2057)
    one k h = let r = ranged (get_or ts k (pos 0)) (w.each k h) in rw (counts_get ts k h) (r.low, r.high)

pub instant_same : (t : ℤ) → time_in_range t ≡ true → instant_of (count_at t) ≡ instant_at t
unfolding instant_of
instant_same t e = (of_nanos t e).0

-- the counts of the first k times are written
pub record Counted (times : List ℤ) (k : ℕ) (out : List ℕ) : Type 0 where
  pub whole : take k out ++ counts_at (drop k times) ≡ counts_at times

pub none_counted : (times : List ℤ) (out : List ℕ) → Counted times 0 out
none_counted times out = record { whole = refl }

pub one_counted : {times : List ℤ} {out : List ℕ} {k : ℕ} → k < length times → k < length out → Counted times k out → (n : ℕ) → n ≡ count_at (get_or times k (pos 0))
    → Counted times (k + 1) (set out k n)
unfolding counts_at
one_counted {times} {out} {k} h l w n e =
    record { whole = rw e (stored out k _ _ l ∙ ap (take k out ++◌) (sym (rw add-one (ap counts_at (drop-cons times k (pos 0) h)))) ∙ w.whole) }

pub all_counted : {times : List ℤ} {out : List ℕ} {k : ℕ} → k ≤ length times → length times ≤ k → Counted times k out → take (length times) out ≡ counts_at times
unfolding counts_at
all_counted {times} {out} {k} h l w =
    let same : k ≡ length times = omega arith in
    rw (same, drop-length, append-nil) at w.whole

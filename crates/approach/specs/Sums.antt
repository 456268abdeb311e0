-- The sum of squares that the search makes small, in the reference's order.
use Rattle.std.specs.Prelude.{◌≡◌, refl, cond, List, ℕ, eqb, ℤ, pos, length, get_or, Float, Result, Ok}
use Rattle.std.specs.Float.{nan}
use Rattle.std.specs.Float.Ieee.{round, of_bits}
use Rattle.loops.specs.Loop.{for}
use Rattle.float.specs.Constant.{decimal}
use Rattle.float.specs.Ops.{◌⊕◌, ◌⊖◌, ◌⊗◌, ◌⊘◌, bits}
use Rattle.moment.specs.declared.Instant.{Instant}
use Rattle.moment.specs.Time.{nanos_of, tau_millis_of}
use Rattle.moment.specs.Sample.{instant_at}
use Rattle.pass_set.specs.PassSet.{pass_of}
use Rattle.frame.specs.Rotation.{turn_at}
use Rattle.orbit.specs.declared.Elements.{Elements}
use Rattle.orbit.specs.declared.doppler.Station.{Station}
use Rattle.refusal.specs.declared.Refusal.{Refusal}
use Rattle.orbit.specs.Doppler.{predicted_of, frequency_of}
use Rattle.approach.specs.declared.Gradient.{Gradient}
use Rattle.approach.specs.Pca.{obs_pca_time, pred_pca_time}

unfoldable pub hundred : Float
hundred = decimal 100 0

pub hundred_bits : bits 0x4059000000000000 ≡ hundred
unfolding hundred of_bits round
hundred_bits = refl

-- the seconds from e to t: whole milliseconds over a thousand
abbrev pub seconds_from : Instant → Instant → Float
seconds_from t e = tau_millis_of (nanos_of t.secs t.nanos) (nanos_of e.secs e.nanos)

-- r is what was predicted, and no refusal
pub record Shifted (r : Float) (p : Result Float Refusal) : Type 0 where
  pub is : Ok r ≡ p

module _ (g : Station) (e : Elements) where
  -- what is predicted for the moment t, with no bias
  unfoldable pub prediction_at : Float → Instant → Result Float Refusal
  prediction_at dt t = predicted_of g e (nanos_of t.secs t.nanos) (turn_at t.secs t.nanos) dt (bits 0) (bits 0)

  -- sample k's: its frequency less centre and prediction, squared; none is refused (theorem `never_far` of proofs/Far.antt)
  unfoldable pub sample_of : (dt : Float) (times : List ℤ) (freqs : List Float) (k : ℕ) (rss : Float) → Float
  sample_of dt times freqs k rss =
      let diff = get_or freqs k nan ⊖ (g.center_freq ⊕ frequency_of (prediction_at dt (instant_at (get_or times k (pos 0))))) in
      rss ⊕ diff ⊗ diff

  unfoldable pub samples_of : Float → List ℤ → List Float → Float → Float
  samples_of dt times freqs rss = for 0 (length freqs) (sample_of dt times freqs) rss

  -- of one pass's samples: the seconds from the observed closest moment, by the station's centre, to the predicted, by the first pass's
  unfoldable pub dt_of : Float → List ℤ → List Float → Float
  dt_of first times freqs = seconds_from (pred_pca_time g e first times freqs) (obs_pca_time times freqs g.center_freq)

  -- 100 times its square, and each sample's
  unfoldable pub pass_sum_of : Float → List ℤ → List Float → Float → Float
  pass_sum_of first times freqs rss =
      let dt = dt_of first times freqs in
      cond (eqb (length freqs) 0) rss (samples_of dt times freqs (rss ⊕ hundred ⊗ dt ⊗ dt))

  -- of pass p of a set
  unfoldable pub pass_add_of : (first : Float) (counts : List ℕ) (times : List ℤ) (freqs : List Float) (p : ℕ) (rss : Float) → Float
  pass_add_of first counts times freqs p rss = pass_sum_of first (pass_of counts p times) (pass_of counts p freqs) rss

  unfoldable pub rss_of : List ℕ → List ℤ → List Float → List Float → Float
  rss_of counts times freqs centers = for 0 (length counts) (pass_add_of (get_or centers 0 nan) counts times freqs) (bits 0)

-- ---- the four differences

-- 1000 m, and 1e-4 rad
unfoldable pub eps_a : Float
eps_a = decimal 1000 0

pub eps_a_bits : bits 0x408f400000000000 ≡ eps_a
unfolding eps_a of_bits round
eps_a_bits = refl

unfoldable pub eps : Float
eps = decimal 1 4

pub eps_bits : bits 0x3f1a36e2eb1c432d ≡ eps
unfolding eps of_bits round
eps_bits = refl

unfoldable pub gradient_of : (g : Station) (e : Elements) (counts : List ℕ) (times : List ℤ) (freqs centers : List Float) → Gradient
gradient_of g e counts times freqs centers =
    let sum : Elements → Float = λ o. rss_of g o counts times freqs centers in
    record {
      grad_a = (sum (record { a = e.a ⊕ eps_a; i = e.i; raan0 = e.raan0; u0 = e.u0 }) ⊖ sum e) ⊘ eps_a;
      grad_i = (sum (record { a = e.a; i = e.i ⊕ eps; raan0 = e.raan0; u0 = e.u0 }) ⊖ sum e) ⊘ eps;
      grad_raan = (sum (record { a = e.a; i = e.i; raan0 = e.raan0 ⊕ eps; u0 = e.u0 }) ⊖ sum e) ⊘ eps;
      grad_u0 = (sum (record { a = e.a; i = e.i; raan0 = e.raan0; u0 = e.u0 ⊕ eps }) ⊖ sum e) ⊘ eps;
    }

-- Where the two refinements start: a radius from the time between the passes, and a set from an orbit. The counts have no zero.
use Rattle.std.specs.Prelude.{◌≡◌, refl, Bool, cond, List, ◌∷◌, ℕ, ◌<◌, ℤ, length, set, replicate, Float}
use Rattle.std.specs.Float.Ieee.{lt, of_bits, round}
use Rattle.loops.specs.Loop.{for}
use Rattle.roots.specs.Cube.{cbrt_of}
use Rattle.float.specs.Constant.{decimal}
use Rattle.float.specs.Ops.{◌⊕◌, ◌⊗◌, ◌⊘◌, bits, one, max_of, min_of, round_of}
use Rattle.float.specs.Trig.{pi}
use Rattle.solution.specs.Range.{least_radius, most_radius}
use Rattle.moment.specs.declared.Instant.{Instant}
use Rattle.moment.specs.Sample.{Timed}
use Rattle.orbit.specs.declared.Elements.{Elements}
use Rattle.orbit.specs.declared.doppler.Station.{Station}
use Rattle.orbit.specs.Orbit.{mu}
use Rattle.pass_set.specs.PassSet.{Sizes, count_of, pass_of}
use Rattle.approach.specs.Pca.{obs_pca_time}
use Rattle.approach.specs.Sums.{seconds_from, dt_of}
use Rattle.residuals.specs.Residuals.{place_of}
use Rattle.start.specs.declared.Periods.{Periods}

-- what the functions ask: a set that passed refusals 4 and 5, a sample in each pass
pub record SampledPasses (counts : List ℕ) (times : List ℤ) (freqs : List Float) : Type 0 where
  pub sizes : Sizes counts (length times) (length freqs) (length counts)
  pub timed : Timed times
  pub each : (p : ℕ) → p < length counts → 0 < count_of counts p

-- ---- the radius

-- the period in seconds that the reference takes until it knows better
unfoldable pub usual_period : Float
usual_period = decimal 5700 0

pub usual_period_bits : bits 0x40b6440000000000 ≡ usual_period
unfolding usual_period of_bits round
usual_period_bits = refl

-- dt seconds are k periods, k the nearest whole number to dt over the usual one: if k is above 0, one more period is known
unfoldable pub add_period : Float → Periods → Periods
add_period dt s =
    let k = round_of (dt ⊘ usual_period) in
    cond (lt (bits 0) k) (record { sum = s.sum ⊕ dt ⊘ k; count = s.count ⊕ one }) s

-- their mean
unfoldable pub mean_period : Periods → Float
mean_period s = cond (lt (bits 0) s.count) (s.sum ⊘ s.count) usual_period

-- Kepler's third law, a³ = μT²/4π², held to 6500 km .. 20000 km
unfoldable pub four : Float
four = decimal 4 0

pub four_bits : bits 0x4010000000000000 ≡ four
unfolding four of_bits round
four_bits = refl

unfoldable pub radius_of : Float → Float
radius_of t = min_of (max_of (cbrt_of (mu ⊗ t ⊗ t ⊘ (four ⊗ pi ⊗ pi))) least_radius) most_radius

module _ (counts : List ℕ) (times : List ℤ) (freqs : List Float) (center : Float) where
  -- the observed closest moment of pass p
  unfoldable pub obs_of : ℕ → Instant
  obs_of p = obs_pca_time (pass_of counts p times) (pass_of counts p freqs) center

  -- each later pass against the first
  unfoldable pub next_period : ℕ → Periods → Periods
  next_period p s = add_period (seconds_from (obs_of p) (obs_of 0)) s

  unfoldable pub periods_of : Periods
  periods_of = for 1 (length counts) next_period (record { sum = bits 0; count = bits 0 })

  unfoldable pub radius_estimate : Float
  radius_estimate = radius_of (mean_period periods_of)

-- ---- a refinement's first set

-- the orbit, and no biases
unfoldable pub with_elements : Elements → List Float
with_elements e = e.a ∷ e.i ∷ e.raan0 ∷ e.u0 ∷ replicate 64 (bits 0)

module _ (counts : List ℕ) (times : List ℤ) (freqs : List Float) (g : Station) (e : Elements) where
  -- pass p's dt: the seconds from its observed closest moment to the predicted one, both by the station's centre
  unfoldable pub pass_dt : ℕ → Float
  pass_dt p = dt_of g e g.center_freq (pass_of counts p times) (pass_of counts p freqs)

  -- at its place in a set of the first refinement, or of the second
  unfoldable pub put_dt : Bool → ℕ → List Float → List Float
  put_dt second p x = set x (place_of second p) (pass_dt p)

  unfoldable pub starting_set : Bool → List Float
  starting_set second = for 0 (length counts) (put_dt second) (with_elements e)

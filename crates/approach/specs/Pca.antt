-- The moment of closest approach of one pass, as the reference searches it.
use Rattle.std.specs.Prelude.{cond, List, ℕ, ◌+◌, ◌-◌, ◌*◌, eqb, ℤ, pos, length, get_or, set, Float}
use Rattle.std.specs.Float.{nan}
use Rattle.std.specs.Float.Ieee.{lt}
use Rattle.loops.specs.Loop.{for}
use Rattle.float.specs.Ops.{◌⊖◌, abs_of, largest}
use Rattle.moment.specs.declared.Instant.{Instant}
use Rattle.moment.specs.Time.{nanos_of, tau_of}
use Rattle.moment.specs.Sample.{instant_at, since_of}
use Rattle.pass_set.specs.PassSet.{pass_of}
use Rattle.frame.specs.declared.State.{State}
use Rattle.frame.specs.declared.Vec3.{Vec3}
use Rattle.frame.specs.Rotation.{turn_at}
use Rattle.orbit.specs.declared.Elements.{Elements}
use Rattle.orbit.specs.declared.doppler.Station.{Station}
use Rattle.orbit.specs.Orbit.{ecef_at}
use Rattle.orbit.specs.Doppler.{dot_of, epoch_count}
use Rattle.approach.specs.declared.Nearest.{Nearest}
use Rattle.approach.specs.declared.Closest.{Closest}
use Rattle.approach.specs.declared.Stage.{Stage}

-- ---- the observed closest sample: the first of least |frequency − centre|; where none is below f64::MAX, the first of all

unfoldable pub nearer_of : List Float → Float → ℕ → Nearest → Nearest
nearer_of freqs center k s =
    let off = abs_of (get_or freqs k nan ⊖ center) in
    cond (lt off s.offset) (record { offset = off; at = k }) s

unfoldable pub obs_pca_at : List Float → Float → ℕ
obs_pca_at freqs center = (for 0 (length freqs) (nearer_of freqs center) (record { offset = largest; at = 0 })).at

unfoldable pub obs_pca_time : List ℤ → List Float → Float → Instant
obs_pca_time times freqs center = instant_at (get_or times (obs_pca_at freqs center) (pos 0))

-- ---- the predicted closest moment

-- the square of the distance between a satellite's and a receiver's place
unfoldable pub square_of : State → Vec3 → Float
square_of s q = dot_of (s.x ⊖ q.x) (s.y ⊖ q.y) (s.z ⊖ q.z) (s.x ⊖ q.x) (s.y ⊖ q.y) (s.z ⊖ q.z)

-- 600 s on both sides by 20 s, then 20 s by 2 s, then 2 s by 1 s
abbrev pub coarse : Stage
coarse = record { half = 600; step = 20; n = 61 }

abbrev pub medium : Stage
medium = record { half = 20; step = 2; n = 21 }

abbrev pub fine : Stage
fine = record { half = 2; step = 1; n = 5 }

module _ (g : Station) (e : Elements) where
  -- the same at a moment, both the orbit's and the Earth's
  unfoldable pub square_at : ℕ → ℕ → Float
  square_at secs nanos = square_of (ecef_at e.a e.i e.raan0 e.u0 (tau_of (nanos_of secs nanos) (epoch_count g)) (turn_at secs nanos)) g.rec_ecef

  module _ (nanos : ℕ) where
    -- the closer of the best so far and the moment at so many seconds; all steps are whole seconds, so that the nanoseconds stay
    unfoldable pub closer_of : ℕ → Closest → Closest
    closer_of secs s = let d = square_at secs nanos in cond (lt d s.dist) (record { dist = d; secs = secs }) s

    -- n moments, step seconds apart, from half seconds before the best so far
    unfoldable pub searched_of : Stage → Closest → Closest
    searched_of w s = for 0 w.n (λ k. closer_of (s.secs - w.half + w.step * k)) s

    -- each stage around the best so far
    unfoldable pub closest_secs : ℕ → ℕ
    closest_secs secs = (searched_of fine (searched_of medium (searched_of coarse (record { dist = largest; secs = secs })))).secs

  unfoldable pub closest_of : Instant → Instant
  closest_of t = record { secs = closest_secs t.nanos t.secs; nanos = t.nanos }

  -- of one pass's samples, around the one closest to the centre `first`; an empty pass gives the epoch
  unfoldable pub pred_pca_time : Float → List ℤ → List Float → Instant
  pred_pca_time first times freqs = cond (eqb (length freqs) 0) g.epoch (closest_of (obs_pca_time times freqs first))

  -- pass p's, in nanoseconds since 1970, at place p
  unfoldable pub put_pca_of : (first : Float) (counts : List ℕ) (times : List ℤ) (freqs : List Float) (p : ℕ) (out : List ℤ) → List ℤ
  put_pca_of first counts times freqs p out = set out p (since_of (pred_pca_time first (pass_of counts p times) (pass_of counts p freqs)))

  -- every pass's, by the first pass's centre
  unfoldable pub pca_times_of : List ℕ → List ℤ → List Float → List Float → List ℤ → List ℤ
  pca_times_of counts times freqs centers out = for 0 (length counts) (put_pca_of (get_or centers 0 nan) counts times freqs) out

-- What the calls answer and write, for every input.
use Rattle.std.specs.Prelude.{◌≡◌, not, List, [], ◌∷◌, ℕ, ltb, ℤ, length, Float, Option, None, Result, ⊤}
use Rattle.refusal.specs.Refusals.{Check, ◌when◌, first_of, answer, written}
use Rattle.refusal.specs.declared.Refusal.{Refusal}
use Rattle.refusal.specs.declared.Refusal.TheVariants.{MomentRange, Sizes, ShortMemory}
use Rattle.float.specs.Ops.{bits}
use Rattle.moment.specs.declared.Moment.{Moment}
use Rattle.moment.specs.Range.{taken}
use Rattle.moment.specs.Sample.{times_in_range}
use Rattle.pass_set.specs.PassSet.{sizes_agree}
use Rattle.pass_set.specs.declared.PassSet.{PassSet}
use Rattle.frame.specs.declared.Vec3.{Vec3}
use Rattle.orbit.specs.declared.Elements.{Elements}
use Rattle.orbit.specs.Doppler.{station_at}
use Rattle.approach.specs.declared.Gradient.{Gradient}
use Rattle.approach.specs.Pca.{pca_times_of}
use Rattle.approach.specs.Sums.{rss_of, gradient_of}

-- ---- refusals

-- 4: a sample is outside 1957 to 2057; 5: the sizes disagree or are too large
abbrev pub set_refusals : List ℕ → List ℤ → List Float → List Float → List Check → List Check
set_refusals counts times freqs centers rest =
    (MomentRange when not (times_in_range times)) ∷ (Sizes when not (sizes_agree counts (length times) (length freqs) (length centers))) ∷ rest

-- 4: the epoch is outside 1957 to 2057
abbrev pub input_refusals : (epoch : Moment) (counts : List ℕ) (times : List ℤ) (freqs centers : List Float) (rest : List Check) → List Check
input_refusals epoch counts times freqs centers rest = (MomentRange when not (taken epoch)) ∷ set_refusals counts times freqs centers rest

unfoldable pub set_refusal_of : List ℕ → List ℤ → List Float → List Float → Option Refusal
set_refusal_of counts times freqs centers = first_of (set_refusals counts times freqs centers [])

unfoldable pub sum_refusal : Moment → List ℕ → List ℤ → List Float → List Float → Option Refusal
sum_refusal epoch counts times freqs centers = first_of (input_refusals epoch counts times freqs centers [])

-- 21: the output is shorter than the passes
unfoldable pub pca_refusal_of : (epoch : Moment) (counts : List ℕ) (times : List ℤ) (freqs centers : List Float) (room : ℕ) → Option Refusal
pca_refusal_of epoch counts times freqs centers room = first_of (input_refusals epoch counts times freqs centers ((ShortMemory when ltb room (length counts)) ∷ []))

-- what is accepted has the slices given
pub record Accepts (counts : List ℕ) (times : List ℤ) (freqs centers : List Float) (s : PassSet) : Type 0 where
  pub accepted : set_refusal_of counts times freqs centers ≡ None
  pub counts_are : s.counts.now ≡ counts
  pub times_are : s.times.now ≡ times
  pub freqs_are : s.freqs.now ≡ freqs
  pub centers_are : s.centers.now ≡ centers

-- ---- answers: a refusal, or what is worked out

abbrev pub compute_rss_of : (epoch : Moment) (center : Float) (rec : Vec3) (e : Elements) (counts : List ℕ) (times : List ℤ) (freqs centers : List Float) → Result Float Refusal
compute_rss_of epoch center rec e counts times freqs centers =
    answer (sum_refusal epoch counts times freqs centers) (rss_of (station_at epoch center rec) e counts times freqs centers)

abbrev pub compute_gradient_of : (epoch : Moment) (center : Float) (rec : Vec3) (e : Elements) (counts : List ℕ) (times : List ℤ) (freqs centers : List Float) → Result Gradient Refusal
compute_gradient_of epoch center rec e counts times freqs centers =
    answer (sum_refusal epoch counts times freqs centers) (gradient_of (station_at epoch center rec) e counts times freqs centers)

-- what get_pred_pca_times writes: the moments, or, refused, what was there. No frequency is predicted, so that the station's centre is read by nothing
abbrev pub pca_written : (epoch : Moment) (rec : Vec3) (e : Elements) (counts : List ℕ) (times : List ℤ) (freqs centers : List Float) (out : List ℤ) → List ℤ
pca_written epoch rec e counts times freqs centers out =
    written (pca_refusal_of epoch counts times freqs centers (length out)) (pca_times_of (station_at epoch (bits 0) rec) e counts times freqs centers out) out

pub record FindsPcas (a i raan u0 : Float) (epoch : Moment) (rec : Vec3) (counts : List ℕ) (times : List ℤ) (freqs centers : List Float) (out out' : List ℤ) (r : Result ⊤ Refusal) : Type 0 where
  pub answer : r ≡ answer (pca_refusal_of epoch counts times freqs centers (length out)) tt
  pub output : out' ≡ pca_written epoch rec (record { a = a; i = i; raan0 = raan; u0 = u0 }) counts times freqs centers out

-- A pass of a set, and what its sight's station and orbit are. Assumes nothing.
use mathlib.Core.Path.{◌≡◌}
use mathlib.Core.List.{List}
use Prim.Native.Nat.{ℕ}
use lib.IntN.{ℤ}
use lib.ListN.{set}
use lib.Ieee.{Float}
use Rattle.moment.specs.declared.Instant.{Instant}
use Rattle.moment.specs.Range.{Within}
use Rattle.moment.specs.Sample.{since_of}
use Rattle.pass_set.specs.PassSet.{pass_of}
use Rattle.orbit.specs.declared.Elements.{Elements}
use Rattle.orbit.specs.declared.doppler.Station.{Station}
use Rattle.approach.specs.Sums.{pass_sum_of, pass_add_of, rss_of}
use Rattle.approach.specs.Pca.{pred_pca_time, put_pca_of, pca_times_of}

module _ (g : Station) (e : Elements) (first : Float) (counts : List ℕ) (times : List ℤ) (freqs : List Float) (p : ℕ)
    {t : List ℤ} {f : List Float} (a : t ≡ pass_of counts p times) (b : f ≡ pass_of counts p freqs) where
  -- its sum is pass p's
  pub pass_added : (sum r : Float) → r ≡ pass_sum_of g e first t f sum → r ≡ pass_add_of g e first counts times freqs p sum
  unfolding pass_add_of
  pass_added sum r q = rw (a, b) at q

  -- and so is its closest moment
  pub pass_put : (out : List ℤ) (m : Instant) (z : ℤ) → z ≡ since_of m → m ≡ pred_pca_time g e first t f → set out p z ≡ put_pca_of g e first counts times freqs p out
  unfolding put_pca_of
  pass_put out m z h q = rw (h, q, a, b)

-- ---- an orbit seen from a station

module _ {g s : Station} {e o : Elements} (is : (s ≡ g) × (o ≡ e)) where
  pub dated : Within 0 g.epoch.secs g.epoch.nanos → Within 0 s.epoch.secs s.epoch.nanos
  dated w = rw is.0 w

  pub seen_rss : (counts : List ℕ) (times : List ℤ) (freqs centers : List Float) (r : Float) → r ≡ rss_of s o counts times freqs centers → r ≡ rss_of g e counts times freqs centers
  seen_rss counts times freqs centers r q = rw (is.0, is.1) at q

  pub seen_pcas : (counts : List ℕ) (times : List ℤ) (freqs centers : List Float) (out r : List ℤ) → r ≡ pca_times_of s o counts times freqs centers out
      → r ≡ pca_times_of g e counts times freqs centers out
  seen_pcas counts times freqs centers out r q = rw (is.0, is.1) at q

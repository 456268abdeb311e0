-- The noise of the samples of passes. Over five neighbouring samples of a pass with unlike moments the fourth divided difference of the
-- frequencies over the moments, divided by the root of the sum of its squared weights, is noise, whatever smooth curve lies below: for a cubic
-- it is 0, and for white noise its mean square is the noise's. The root mean square over all such windows is the estimate. One rounding per
-- operation, in the order written here.
use Rattle.std.specs.Prelude.{ℕ, ◌+◌, ◌-◌, Bool, not, ◌&&◌, cond, List, ltb, ℤ, pos, length, get_or, Float}
use Rattle.std.specs.Float.{nan}
use Rattle.std.specs.Float.Ieee.{eq}
use Rattle.float.specs.Ops.{◌⊕◌, ◌⊖◌, ◌⊗◌, ◌⊘◌, bits, one}
use Rattle.roots.specs.Root.{sqrt_of}
use Rattle.loops.specs.Loop.{for}
use Rattle.moment.specs.Time.{tau_of}
use Rattle.moment.specs.Sample.{time_in_range, sample_count}
use Rattle.pass_set.specs.PassSet.{sizes_agree}
use Rattle.noise.specs.declared.Five.{Five}
use Rattle.noise.specs.declared.Sums.{Sums}

-- the seconds from e to t, whole microseconds over a million; NaN where one of them is out of range
unfoldable pub between_of : ℤ → ℤ → Float
between_of t e = cond (time_in_range t && time_in_range e) (tau_of (sample_count t) (sample_count e)) nan

-- from sample j's moment to sample k's; NaN past the last sample
unfoldable pub seconds_at : List ℤ → ℕ → ℕ → Float
seconds_at times k j = cond (ltb k (length times) && ltb j (length times)) (between_of (get_or times k (pos 0)) (get_or times j (pos 0))) nan

-- the moments of the five samples from k on, each counted once, from the first of them
unfoldable pub moments_at : List ℤ → ℕ → Five
moments_at times k =
    record {
      a = seconds_at times k k;
      b = seconds_at times (k + 1) k;
      c = seconds_at times (k + 2) k;
      d = seconds_at times (k + 3) k;
      e = seconds_at times (k + 4) k;
    }

-- the product of the distances of t from the others
unfoldable pub product_of : Float → Float → Float → Float → Float → Float
product_of t p q r s = (t ⊖ p) ⊗ (t ⊖ q) ⊗ (t ⊖ r) ⊗ (t ⊖ s)

-- for each of five moments, the product of its distances from the four others
unfoldable pub products_of : Five → Five
products_of t =
    record {
      a = product_of t.a t.b t.c t.d t.e;
      b = product_of t.b t.a t.c t.d t.e;
      c = product_of t.c t.a t.b t.d t.e;
      d = product_of t.d t.a t.b t.c t.e;
      e = product_of t.e t.a t.b t.c t.d;
    }

unfoldable pub products_at : List ℤ → ℕ → Five
products_at times k = products_of (moments_at times k)

-- the moments are unlike: no distance is 0, to the microsecond
unfoldable pub apart_of : Five → Bool
apart_of p = not (eq p.a (bits 0)) && (not (eq p.b (bits 0)) && (not (eq p.c (bits 0)) && (not (eq p.d (bits 0)) && not (eq p.e (bits 0)))))

-- the weights of the fourth divided difference
unfoldable pub weights_of : Five → Five
weights_of p = record { a = one ⊘ p.a; b = one ⊘ p.b; c = one ⊘ p.c; d = one ⊘ p.d; e = one ⊘ p.e }

abbrev pub frequencies_at : List Float → ℕ → Five
frequencies_at freqs k =
    record { a = get_or freqs k nan; b = get_or freqs (k + 1) nan; c = get_or freqs (k + 2) nan; d = get_or freqs (k + 3) nan; e = get_or freqs (k + 4) nan }

-- Σ w f
unfoldable pub difference_of : Five → Five → Float
difference_of w f = w.a ⊗ f.a ⊕ w.b ⊗ f.b ⊕ w.c ⊗ f.c ⊕ w.d ⊗ f.d ⊕ w.e ⊗ f.e

-- √ Σ w²
unfoldable pub weight_size : Five → Float
weight_size w = sqrt_of (w.a ⊗ w.a ⊕ w.b ⊗ w.b ⊕ w.c ⊗ w.c ⊕ w.d ⊗ w.d ⊕ w.e ⊗ w.e)

-- the noise of the five samples from k on
unfoldable pub noise_at : List ℤ → List Float → ℕ → Float
noise_at times freqs k = let w = weights_of (products_at times k) in difference_of w (frequencies_at freqs k) ⊘ weight_size w

-- its square added, and the window counted
unfoldable pub with_noise : Float → Sums → Sums
with_noise n s = record { squares = s.squares ⊕ n ⊗ n; windows = s.windows ⊕ one; at = s.at }

unfoldable pub window_of : List ℤ → List Float → ℕ → Sums → Sums
window_of times freqs k s = cond (apart_of (products_at times k)) (with_noise (noise_at times freqs k) s) s

-- the windows that begin at samples from `at` up to `end`
unfoldable pub windows_of : List ℤ → List Float → ℕ → ℕ → Sums → Sums
windows_of times freqs at end s = for at end (window_of times freqs) s

-- a pass of n samples more: n − 4 windows
unfoldable pub pass_sums : List ℤ → List Float → ℕ → Sums → Sums
pass_sums times freqs n s =
    let w = cond (ltb n 5) s (windows_of times freqs s.at (s.at + n - 4) s) in
    record { squares = w.squares; windows = w.windows; at = s.at + n }

abbrev pub with_pass : List ℕ → List ℤ → List Float → ℕ → Sums → Sums
with_pass counts times freqs p s = pass_sums times freqs (get_or counts p 0) s

abbrev pub open_sums : Sums
open_sums = record { squares = bits 0; windows = bits 0; at = 0 }

-- 0/0 where there is no window
abbrev pub window_root : Sums → Float
window_root s = sqrt_of (s.squares ⊘ s.windows)

-- over all passes, where the sizes agree with the arrays
unfoldable pub estimate_of : List ℕ → List ℤ → List Float → Float
estimate_of counts times freqs =
    cond (sizes_agree counts (length times) (length freqs) (length counts)) (window_root (for 0 (length counts) (with_pass counts times freqs) open_sums)) nan

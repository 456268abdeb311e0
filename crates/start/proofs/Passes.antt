-- A pass's part of a set without empty passes. Assumes nothing.
use mathlib.Core.Path.{◌≡◌, ap, ap₂, ◌∙◌}
use mathlib.Core.Bool.{Bool}
use mathlib.Core.List.{List}
use Prim.Native.Nat.{ℕ, ◌+◌, ◌≤◌, ◌<◌}
use native.Mathlib.Omega.{arith}
use lib.IntN.{ℤ}
use lib.ListN.{length, set}
use lib.Ieee.{Float}
use Rattle.moment.specs.declared.Instant.{Instant}
use Rattle.orbit.specs.declared.Elements.{Elements}
use Rattle.orbit.specs.declared.doppler.Station.{Station}
use Rattle.pass_set.specs.PassSet.{count_of, pass_of, total, AtPass}
use Rattle.pass_set.proofs.Laws.{start_zero, start_next, pass_fits, pass_length}
use Rattle.approach.specs.Pca.{obs_pca_time}
use Rattle.approach.specs.Sums.{seconds_from, dt_of}
use Rattle.residuals.specs.Residuals.{place_of}
use Rattle.start.specs.declared.Periods.{Periods}
use Rattle.start.specs.Start.{SampledPasses, add_period, obs_of, next_period, pass_dt, put_dt}

-- a pass has a sample
pub some : {counts : List ℕ} {times : List ℤ} {freqs : List Float} {p : ℕ} {part : List Float} → SampledPasses counts times freqs → p < length counts → part ≡ pass_of counts p freqs → 0 < length part
some {counts} {freqs = freqs} {p = p} s h e =
    let whole : total counts ≤ length freqs = omega (arith, s.sizes.whole, s.sizes.pairs) in
    rw (e, pass_length counts p freqs h whole) (s.each p h)

-- where it ends
pub fits_times : {counts : List ℕ} {times : List ℤ} {freqs : List Float} {p k : ℕ} → SampledPasses counts times freqs → AtPass counts p k → p < length counts → k + count_of counts p ≤ length times
fits_times s a h = omega (arith, pass_fits h a, s.sizes.whole)

pub fits_freqs : {counts : List ℕ} {times : List ℤ} {freqs : List Float} {p k : ℕ} → SampledPasses counts times freqs → AtPass counts p k → p < length counts → k + count_of counts p ≤ length freqs
fits_freqs s a h = omega (arith, fits_times s a h, s.sizes.pairs)

pub small : {counts : List ℕ} {times : List ℤ} {freqs : List Float} {p k : ℕ} → SampledPasses counts times freqs → AtPass counts p k → p < length counts → k + count_of counts p ≤ 4096
small s a h = omega (arith, pass_fits h a, s.sizes.whole, s.sizes.small)

-- the second pass begins where the first ends
pub second_pass : (counts : List ℕ) → 0 < length counts → AtPass counts 1 (count_of counts 0)
second_pass counts h = record { within = omega arith; begins = omega (arith, start_next counts 0 h, start_zero counts) }

-- what is found in a pass's samples
pub pass_obs : (counts : List ℕ) (times part : List ℤ) (freqs heard : List Float) (p : ℕ) (center : Float) (r : Instant) → part ≡ pass_of counts p times → heard ≡ pass_of counts p freqs
    → r ≡ obs_pca_time part heard center → r ≡ obs_of counts times freqs center p
unfolding obs_of
pass_obs counts times part freqs heard p center r t f e = rw (t, f) at e

-- of the orbit o seen from the station g
pub pass_dt_is : (counts : List ℕ) (times part : List ℤ) (freqs heard : List Float) (p : ℕ) (g h : Station) (e o : Elements) (d : Float) → part ≡ pass_of counts p times → heard ≡ pass_of counts p freqs
    → (h ≡ g) × (o ≡ e) → d ≡ dt_of h o h.center_freq part heard → d ≡ pass_dt counts times freqs g e p
unfolding pass_dt
pass_dt_is counts times part freqs heard p g h e o d t f v q = rw (v.0, v.1, t, f) at q

-- ---- what a turn of each loop did

pub period_is : (counts : List ℕ) (times : List ℤ) (freqs : List Float) (center : Float) (p : ℕ) (s r : Periods) (dt : Float) (t t0 : Instant)
    → r ≡ add_period dt s → dt ≡ seconds_from t t0 → t ≡ obs_of counts times freqs center p → t0 ≡ obs_of counts times freqs center 0 → r ≡ next_period counts times freqs center p s
unfolding next_period
period_is counts times freqs center p s r dt t t0 e d q z = e ∙ ap (λ (x : Float). add_period x s) (d ∙ ap₂ (λ (x y : Instant). seconds_from x y) q z)

pub put_is : (counts : List ℕ) (times : List ℤ) (freqs : List Float) (g : Station) (e : Elements) (second : Bool) (p : ℕ) (x : List Float) (at : ℕ) (dt : Float)
    → at ≡ place_of second p → dt ≡ pass_dt counts times freqs g e p → set x at dt ≡ put_dt counts times freqs g e second p x
unfolding put_dt
put_is counts times freqs g e second p x at dt q z = ap₂ (λ (n : ℕ) (d : Float). set x n d) q z

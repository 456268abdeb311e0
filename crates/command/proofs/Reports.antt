-- The report's numbers. Assumes nothing.
use Rattle.std.proofs.Common.{◌≡◌, ℕ, zero, suc, ◌+◌, ◌<◌, ◌≤◌, Bool, true, false, cond, List, length, get_or, take, ℤ, pos, sym, refl, ap, ◌∙◌, le-ltb, lt-ltb, eq-eqb, ne_eqb}
use lib.Ieee.{Float, nan, binary64, of_int}
use Rattle.float.specs.Ops.{◌⊘◌}
use Rattle.roots.specs.Root.{sqrt_of}
use Rattle.loops.specs.Loop.{for}
use Rattle.arguments.specs.Passes.{non_empty, center_of}
use Rattle.moment.specs.Sample.{time_in_range, moment_at}
use Rattle.moment.specs.declared.Moment.{Moment}
use Rattle.frame.specs.declared.Vec3.{Vec3}
use Rattle.solution.specs.declared.SolvedOrbit.{SolvedOrbit}
use Rattle.command.specs.Report.{no_moment, moment_in, sample_moment, biases_at, biased_pass, squares_of, walk_pass, with_pass, open_walk, mean_root, rms_of, no_biases, biases_of}
use Rattle.command.specs.declared.report.Biases.{Biases}
use Rattle.command.specs.declared.report.Fitted.{Fitted}
use Rattle.command.specs.declared.report.Walk.{Walk}

pub in_time_lem : (u t : ℤ) {b : Bool} {m : Moment} → u ≡ t → b ≡ time_in_range u → b ≡ true → m ≡ moment_at u → m ≡ moment_in t
unfolding moment_in
in_time_lem u t s e h g = g ∙ ap moment_at s ∙ sym (ap (λ (b : Bool). cond b (moment_at t) no_moment) (ap time_in_range (sym s) ∙ sym e ∙ h))

pub out_of_time : (u t : ℤ) {b : Bool} → u ≡ t → b ≡ time_in_range u → b ≡ false → no_moment ≡ moment_in t
unfolding moment_in
out_of_time u t s e h = sym (ap (λ (b : Bool). cond b (moment_at t) no_moment) (ap time_in_range (sym s) ∙ sym e ∙ h))

pub at_sample : (u : ℤ) (times : List ℤ) (k : ℕ) {m : Moment} → u ≡ get_or times k (pos 0) → k < length times → m ≡ moment_in u → m ≡ sample_moment times k
unfolding sample_moment
at_sample u times k {m} s h g = g ∙ ap moment_in s ∙ sym (ap (λ (b : Bool). cond b (moment_in (get_or times k (pos 0))) no_moment) (lt-ltb k (length times) h))

pub past_samples : (times : List ℤ) (k : ℕ) → length times ≤ k → no_moment ≡ sample_moment times k
unfolding sample_moment
past_samples times k h = sym (ap (λ (b : Bool). cond b (moment_in (get_or times k (pos 0))) no_moment) (le-ltb k (length times) h))

-- one pass more
pub walks : (times : List ℤ) (freqs : List Float) (g : Fitted) (b : Biases) (n : ℕ) (w : Walk) {since : Moment} {sum : Float}
    → (n ≡ 0 → ⊥) → since ≡ sample_moment times w.at → sum ≡ squares_of times freqs g (biased_pass b since) w.at (w.at + n) w.sum
    → record { sum = sum; at = w.at + n; passes = w.passes + 1 } ≡ walk_pass times freqs g b n w
walks times freqs g b zero w h e s = absurd (h refl)
walks times freqs g b (suc n) w h e s =
    ap (λ (v : Float). record { sum = v; at = w.at + suc n; passes = w.passes + 1 })
    (s ∙ ap (λ (m : Moment). squares_of times freqs g (biased_pass b m) w.at (w.at + suc n) w.sum) e)

pub walks_none : (times : List ℤ) (freqs : List Float) (g : Fitted) (b : Biases) (n : ℕ) (w : Walk) → n ≡ 0 → w ≡ walk_pass times freqs g b n w
walks_none times freqs g b n w h = sym (ap (λ (m : ℕ). walk_pass times freqs g b m w) h)

-- ---- the mean

module _ (counts : List ℕ) (times : List ℤ) (freqs centers : List Float) (rec : Vec3) (orbit : SolvedOrbit) (dts dfs df1s df2s : List Float) where
  pub many_passes : 16 < length counts → nan ≡ rms_of counts times freqs centers rec orbit dts dfs df1s df2s
  unfolding rms_of
  many_passes h = simp (lt-ltb 16 (length counts) h)

  pub few_centers : length counts ≤ 16 → (length centers ≡ length counts → ⊥) → nan ≡ rms_of counts times freqs centers rec orbit dts dfs df1s df2s
  unfolding rms_of
  few_centers h k = simp (le-ltb 16 (length counts) h, ne_eqb (length centers) (length counts) k)

  whole : length counts ≤ 16 → length centers ≡ length counts
      → rms_of counts times freqs centers rec orbit dts dfs df1s df2s
      ≡ mean_root (for 0 (length counts) (with_pass times freqs (record { orbit = orbit; center_freq = center_of counts centers; rec_ecef = rec }) counts dts dfs df1s df2s) open_walk)
  unfolding rms_of
  whole h k = simp (le-ltb 16 (length counts) h, eq-eqb (length centers) (length counts) k)

  pub mean : {center n r : Float} {w : Walk} → length counts ≤ 16 → length centers ≡ length counts → center ≡ center_of counts centers
      → w ≡ for 0 (length counts) (with_pass times freqs (record { orbit = orbit; center_freq = center; rec_ecef = rec }) counts dts dfs df1s df2s) open_walk
      → n ≡ of_int binary64 (pos w.at) → r ≡ sqrt_of (w.sum ⊘ n) → r ≡ rms_of counts times freqs centers rec orbit dts dfs df1s df2s
  mean {w = w} h k c e s g =
      g ∙ ap (λ (m : Float). sqrt_of (w.sum ⊘ m)) s ∙ ap mean_root e
      ∙ ap
      (λ (v : Float). mean_root (for 0 (length counts) (with_pass times freqs (record { orbit = orbit; center_freq = v; rec_ecef = rec }) counts dts dfs df1s df2s) open_walk))
      c
      ∙ sym (whole h k)

-- ---- a pass's biases

module _ (counts : List ℕ) (p : ℕ) (dts dfs df1s df2s : List Float) where
  pub over_sixteen : 16 < length counts → biases_of counts p dts dfs df1s df2s ≡ no_biases
  unfolding biases_of
  over_sixteen h = simp (lt-ltb 16 (length counts) h)

  pub no_samples : length counts ≤ 16 → get_or counts p 0 ≡ 0 → biases_of counts p dts dfs df1s df2s ≡ no_biases
  unfolding biases_of
  no_samples h e = simp (le-ltb 16 (length counts) h, eq-eqb (get_or counts p 0) 0 e)

  pub with_samples : length counts ≤ 16 → (get_or counts p 0 ≡ 0 → ⊥) → {q : ℕ} {b : Biases} → q ≡ length (non_empty (take p counts)) → b ≡ biases_at dts dfs df1s df2s q
      → b ≡ biases_of counts p dts dfs df1s df2s
  unfolding biases_of
  with_samples h k e a = rw (le-ltb 16 (length counts) h, ne_eqb (get_or counts p 0) 0 k, ← e) a

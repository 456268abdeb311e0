-- The numbers of the report: how far the samples lie from what the returned orbit and biases predict.
use Rattle.std.specs.Prelude.{ℕ, zero, suc, ◌+◌, true, false, cond, not, ◌||◌, List, length, take, ℤ, pos, ◌==◌, nat_lt, slice_index, slice_index_or, Float}
use Rattle.std.specs.Float.{nan, binary64}
use Rattle.std.specs.Float.Ieee.{of_int}
use Rattle.float.specs.Ops.{◌⊕◌, ◌⊖◌, ◌⊗◌, ◌⊘◌, bits}
use Rattle.roots.specs.Root.{sqrt_of}
use Rattle.loops.specs.Loop.{for}
use Rattle.moment.specs.Sample.{time_in_range, moment_at}
use Rattle.moment.specs.declared.Moment.{Moment}
use Rattle.frame.specs.declared.Vec3.{Vec3}
use Rattle.orbit.specs.Doppler.{predict_frequency_poly_of, frequency_of}
use Rattle.arguments.specs.Passes.{non_empty, center_of}
use Rattle.solution.specs.declared.SolvedOrbit.{SolvedOrbit}
use Rattle.command.specs.declared.report.Biases.{Biases}
use Rattle.command.specs.declared.report.Fitted.{Fitted}
use Rattle.command.specs.declared.report.Pass.{Pass}
use Rattle.command.specs.declared.report.Walk.{Walk}

-- a moment that no prediction takes
abbrev pub no_moment : Moment
no_moment = record { seconds = pos 0; nanos = 1000000000 }

-- a sample's moment; an accepted fit has no time out of range
unfoldable pub moment_in : ℤ → Moment
moment_in t = cond (time_in_range t) (moment_at t) no_moment

-- sample k's
unfoldable pub sample_moment : List ℤ → ℕ → Moment
sample_moment times k = cond (nat_lt k (length times)) (moment_in (slice_index_or times k (pos 0))) no_moment

-- a sample's frequency less centre and predicted shift
unfoldable pub residual_of : Fitted → Pass → Moment → Float → Float
residual_of g b m f =
    let o = g.orbit in
    f ⊖ (g.center_freq ⊕ frequency_of (predict_frequency_poly_of o.a o.i o.raan0 o.u0 o.epoch m b.dt b.df b.since g.center_freq g.rec_ecef))

-- the biases of the q-th non-empty pass, and with them the pass whose first sample's moment is m
abbrev pub biases_at : List Float → List Float → List Float → List Float → ℕ → Biases
biases_at dts dfs df1s df2s q = record { sampled = true; dt = slice_index_or dts q nan; df = slice_index_or dfs q nan; df1 = slice_index_or df1s q nan; df2 = slice_index_or df2s q nan }

abbrev pub biased_pass : Biases → Moment → Pass
biased_pass b m = record { dt = b.dt; df = record { 0 = b.df; 1 = b.df1; 2 = b.df2 }; since = m }

module _ (times : List ℤ) (freqs : List Float) (g : Fitted) where
  -- the squares of the residuals from sample `at` up to `end`, added in order
  unfoldable pub square_of : Pass → ℕ → Float → Float
  square_of b k sum = let r = residual_of g b (sample_moment times k) (slice_index_or freqs k nan) in sum ⊕ r ⊗ r

  unfoldable pub squares_of : Pass → ℕ → ℕ → Float → Float
  squares_of b at end sum = for at end (square_of b) sum

  -- a pass of n samples more
  abbrev pub walk_pass : Biases → ℕ → Walk → Walk
  walk_pass b zero w = w
  walk_pass b (suc n) w =
      record { sum = squares_of (biased_pass b (sample_moment times w.at)) w.at (w.at + suc n) w.sum; at = w.at + suc n; passes = w.passes + 1 }

  -- pass p; its biases are those of the next non-empty pass
  abbrev pub with_pass : (counts : List ℕ) (dts dfs df1s df2s : List Float) (p : ℕ) (w : Walk) → Walk
  with_pass counts dts dfs df1s df2s p w = walk_pass (biases_at dts dfs df1s df2s w.passes) (slice_index counts p) w

-- before the first pass
abbrev pub open_walk : Walk
open_walk = record { sum = bits 0; at = 0; passes = 0 }

-- the root of the squares' mean
abbrev pub mean_root : Walk → Float
mean_root w = sqrt_of (w.sum ⊘ of_int binary64 (pos w.at))

-- over all passes, with the first non-empty pass's centre, as the fit takes it
unfoldable pub rms_of : (counts : List ℕ) (times : List ℤ) (freqs centers : List Float) (rec : Vec3) (orbit : SolvedOrbit) (dts dfs df1s df2s : List Float) → Float
rms_of counts times freqs centers rec orbit dts dfs df1s df2s =
    cond (nat_lt 16 (length counts) || not (length centers == length counts)) nan
    (mean_root (for 0 (length counts) (with_pass times freqs (record { orbit = orbit; center_freq = center_of counts centers; rec_ecef = rec }) counts dts dfs df1s df2s) open_walk))

-- Pass p's biases: an empty pass has none, so they stand behind those of the non-empty passes before it.
abbrev pub no_biases : Biases
no_biases = record { sampled = false; dt = nan; df = nan; df1 = nan; df2 = nan }

unfoldable pub biases_of : (counts : List ℕ) (p : ℕ) (dts dfs df1s df2s : List Float) → Biases
biases_of counts p dts dfs df1s df2s =
    cond (nat_lt 16 (length counts) || slice_index counts p == 0) no_biases (biases_at dts dfs df1s df2s (length (non_empty (take p counts))))

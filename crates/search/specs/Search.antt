-- The trajectory from a start, the grid of 144 starts, and the best of a run of them, for any sum of the two angles.
use Rattle.std.specs.Prelude.{ℕ, ◌+◌, ◌*◌, ◌/◌, ◌%◌, cond, List, [], ◌∷◌, replicate, Float}
use Rattle.std.specs.Float.Ieee.{lt}
use Rattle.float.specs.Constant.{decimal}
use Rattle.float.specs.Ops.{◌⊗◌, bits, radians_of, largest, of_nat}
use Rattle.loops.specs.Loop.{for}
use Rattle.monna.specs.Rng.{drawn}
use Rattle.monna.specs.declared.rng.SimpleRng.{SimpleRng}
use Rattle.search.specs.Step.{kept_of, step_of}
use Rattle.search.specs.declared.Best.{Best}
use Rattle.search.specs.declared.Trajectory.{Trajectory}
use Rattle.search.specs.declared.Found.{Found}

unfoldable pub opening_of : Float → Float → SimpleRng → Trajectory
opening_of raan u g = record {
  raan0 = raan;
  u0 = u;
  best = record { raan0 = raan; u0 = u; rss = largest };
  lr = decimal 1 1;
  noise_std = decimal 5 2;
  rng = g;
  history = replicate 15 (bits 0);
}

unfoldable pub finished_of : (Float → Float → Float) → Trajectory → Trajectory
finished_of sum w = record {
  raan0 = w.raan0;
  u0 = w.u0;
  best = kept_of w.best w.raan0 w.u0 (sum w.raan0 w.u0);
  lr = w.lr;
  noise_std = w.noise_std;
  rng = w.rng;
  history = w.history;
}

-- 15 steps, and the sum where they end
unfoldable pub trajectory_of : (Float → Float → Float) → Float → Float → SimpleRng → Trajectory
trajectory_of sum raan u g = finished_of sum (for 0 15 (step_of sum) (opening_of raan u g))

-- ---- the starts: j / 12 and j % 12 times 30 degrees, and the generator after 75×j draws from 1337

unfoldable pub grid_of : ℕ → Float
grid_of k = of_nat k ⊗ radians_of (decimal 30 0)

unfoldable pub after_draws : ℕ → SimpleRng → SimpleRng
after_draws n g = record { state = drawn n g.state }

abbrev pub generator_of : ℕ → SimpleRng
generator_of j = record { state = drawn (75 * j) 1337 }

unfoldable pub trajectory_at : (Float → Float → Float) → ℕ → Trajectory
trajectory_at sum j = trajectory_of sum (grid_of (j / 12)) (grid_of (j % 12)) (generator_of j)

-- ---- the best of a run of starts, in their order: a later one only where its sum is below

-- start j with its trajectory's best
abbrev pub found_by : ℕ → Best → Found
found_by j b = record { start = j; raan0 = b.raan0; u0 = b.u0; rss = b.rss }

unfoldable pub offer_of : (Float → Float → Float) → ℕ → Found
offer_of sum j = found_by j (trajectory_at sum j).best

unfoldable pub better_of : Found → Found → Found
better_of a b = cond (lt b.rss a.rss) b a

-- nothing found yet
abbrev pub nothing : Found
nothing = record { start = 0; raan0 = bits 0; u0 = bits 0; rss = largest }

unfoldable pub with_start : (Float → Float → Float) → ℕ → Found → Found
with_start sum j a = better_of a (offer_of sum j)

unfoldable pub search_of : (Float → Float → Float) → ℕ → ℕ → Found
search_of sum first count = for first (first + count) (with_start sum) nothing

-- ---- runs of starts, one after the other, by their lengths: the best of their bests (`cutting` of proofs/Runs.antt: it is the best of all)

unfoldable pub best_of_runs : (Float → Float → Float) → ℕ → List ℕ → Found → Found
best_of_runs sum first [] a = a
best_of_runs sum first (n ∷ ns) a = best_of_runs sum (first + n) ns (better_of a (search_of sum first n))

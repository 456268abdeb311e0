-- Worked examples: the closest sample of five frequencies around 100 Hz. Assumes nothing.
use mathlib.Core.Path.{◌≡◌, refl}
use mathlib.Core.Bool.{false}
use mathlib.Core.List.{[], ◌∷◌}
use lib.Ieee.{nan, inf, round, sub, neg, lt, eq}
use Rattle.float.specs.Constant.{decimal}
use Rattle.float.specs.Ops.{abs_of}
use Rattle.loops.specs.Loop.{for, turns}
use Rattle.float.specs.Ops.{largest}
use Rattle.approach.specs.Pca.{nearer_of, obs_pca_at}

-- 103, 99, 101, NaN, 98 against 100: of 99 and 101 the first
first_least : obs_pca_at (decimal 103 0 ∷ decimal 99 0 ∷ decimal 101 0 ∷ nan ∷ decimal 98 0 ∷ []) (decimal 100 0) ≡ 1
unfolding round sub neg lt eq abs_of for turns largest nearer_of obs_pca_at
first_least = refl

-- where no difference is below the largest f64, the first sample
none_below : obs_pca_at (nan ∷ inf false ∷ []) (decimal 100 0) ≡ 0
unfolding round sub neg lt eq abs_of for turns largest nearer_of obs_pca_at
none_below = refl

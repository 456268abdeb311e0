-- The sum of squares of a search's passes as a function of the two angles.
use Rattle.std.specs.Prelude.{ℕ, List, ℤ, Float}
use Rattle.approach.specs.Sums.{rss_of}
use Rattle.search.specs.declared.Fixed.{Fixed}
use Rattle.search.specs.declared.problem.Problem.{Problem}

unfoldable pub fixed_sum : (counts : List ℕ) (times : List ℤ) (freqs centers : List Float) (o : Fixed) (raan0 u0 : Float) → Float
fixed_sum counts times freqs centers o raan0 u0 = rss_of o.station (record { a = o.a; i = o.i; raan0 = raan0; u0 = u0 }) counts times freqs centers

-- of a problem's
abbrev pub sum_of : Problem → Float → Float → Float
sum_of p = fixed_sum p.passes.set.counts.now p.passes.set.times.now p.passes.set.freqs.now p.passes.set.centers.now p.fixed

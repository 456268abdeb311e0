-- The two slopes are the reference's gradient by the two angles. Assumes nothing.
use Rattle.std.proofs.Common.{◌≡◌, ℕ, List, ℤ, refl}
use lib.Ieee.{Float}
use Rattle.approach.specs.Sums.{gradient_of}
use Rattle.approach.specs.declared.Gradient.{Gradient}
use Rattle.search.specs.Sum.{fixed_sum}
use Rattle.search.specs.Step.{slope_raan, slope_u}
use Rattle.search.specs.declared.Fixed.{Fixed}

-- g's differences by the node and by the argument of latitude
pub record Slopes (sum : Float → Float → Float) (raan u : Float) (g : Gradient) : Type 0 where
  pub raan0 : slope_raan sum raan u ≡ g.grad_raan
  pub u0 : slope_u sum raan u ≡ g.grad_u0

pub slopes : (counts : List ℕ) (times : List ℤ) (freqs centers : List Float) (o : Fixed) (raan u : Float)
    → Slopes (fixed_sum counts times freqs centers o) raan u (gradient_of o.station (record { a = o.a; i = o.i; raan0 = raan; u0 = u }) counts times freqs centers)
unfolding slope_raan slope_u fixed_sum gradient_of
slopes counts times freqs centers o raan u = record { raan0 = refl; u0 = refl }

-- The fractional differences of a history, as the reference has them: each number's differences from the others, over the 2-adic
-- distance of their places to the power of 1.5.
use Rattle.std.specs.Prelude.{◌≡◌, ℕ, zero, suc, cond, List, [], ◌∷◌, ◌++◌, length, ◌==◌, refl, Float}
use Rattle.std.specs.Float.Ieee.{lt, of_bits, round}
use Rattle.float.specs.Constant.{decimal}
use Rattle.float.specs.Ops.{◌⊕◌, ◌⊖◌, ◌⊗◌, ◌⊘◌, bits, at}
use Rattle.roots.specs.Root.{sqrt_of}
use Rattle.loops.specs.Loop.{for}
use Rattle.monna.specs.Digits.{distance_of}

-- a distance above 1e-9 counts
unfoldable pub least_distance : Float
least_distance = decimal 1 9

pub least_distance_bits : bits 0x3e112e0be826d695 ≡ least_distance
unfolding least_distance of_bits round
least_distance_bits = refl

-- the quotient of u − v, at places i and j, added to sum; d×√d is d to the power of 1.5
unfoldable pub quotient_of : Float → Float → ℕ → ℕ → Float → Float
quotient_of u v i j sum =
    let d = distance_of i j 2 in
    cond (lt least_distance d) (sum ⊕ (u ⊖ v) ⊘ (d ⊗ sqrt_of d)) sum

unfoldable pub with_quotient : List Float → ℕ → ℕ → Float → Float
with_quotient x i j sum = cond (i == j) sum (quotient_of (at x i) (at x j) i j sum)

unfoldable pub difference_at : List Float → ℕ → Float
difference_at x i = for 0 (length x) (with_quotient x i) (bits 0)

-- f 0, f 1, .., f (n − 1)
unfoldable pub tabulated : ℕ → (ℕ → Float) → List Float
tabulated zero f = []
tabulated (suc n) f = tabulated n f ++ f n ∷ []

-- A history of one number has the difference 0.0, whatever the number.
unfoldable pub differences_of : List Float → List Float
differences_of x = tabulated (length x) (difference_at x)

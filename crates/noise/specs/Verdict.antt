-- What a fit's residual says beside the noise of its samples: a hint and no more, since a wrong orbit can fit as well as the right one.
use Rattle.std.specs.Prelude.{ℕ, not, ◌||◌, cond, ltb, Float, ◌≡◌, refl, false}
use Rattle.std.specs.Float.Ieee.{is_nan, lt, le, of_bits, round}
use Rattle.std.specs.Float.{inf}
use Rattle.float.specs.Constant.{decimal}
use Rattle.float.specs.Ops.{◌⊗◌, ◌⊘◌, bits, half, max_of}
use Rattle.noise.specs.declared.Finding.{Finding}
use Rattle.noise.specs.declared.Finding.TheVariants.{AtNoise, Doubtful, TwoPasses, Untold}

unfoldable pub allowance : Float
allowance = decimal 125 2

pub allowance_bits : bits 0x3ff4000000000000 ≡ allowance
unfolding allowance of_bits round
allowance_bits = refl

-- a quarter over the noise; a noise below half a Hz counts as half a Hz
unfoldable pub bound_of : Float → Float
bound_of estimate = allowance ⊗ max_of estimate half

unfoldable pub ratio_of : Float → Float → Float
ratio_of rms estimate = rms ⊘ max_of estimate half

-- Two passes do not tell a wrong orbit. What is no number, or has no bound, tells nothing.
unfoldable pub verdict_of : Float → Float → ℕ → Finding
verdict_of rms estimate passes =
    cond (ltb passes 3) TwoPasses
    (cond (is_nan rms || not (lt estimate (inf false))) Untold (cond (le rms (bound_of estimate)) AtNoise Doubtful))

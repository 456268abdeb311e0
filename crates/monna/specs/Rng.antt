-- The generator. A linear congruential step (Knuth, The Art of Computer Programming, 3.3.4, MMIX) and Box and Muller's transform (1958).
use Rattle.std.specs.Prelude.{◌≡◌, ℕ, zero, suc, ◌+◌, ◌*◌, ◌/◌, ◌%◌, ◌^◌, false, pos, refl, Float}
use Rattle.std.specs.Float.{binary64}
use Rattle.std.specs.Float.Ieee.{of_int, neg, of_bits, round}
use Rattle.float.specs.Constant.{decimal, fraction}
use Rattle.float.specs.Ops.{◌⊗◌, ◌⊘◌, bits, two, max_of}
use Rattle.float.specs.Log.{ln_of}
use Rattle.float.specs.Trig.{pi, cos_of}
use Rattle.roots.specs.Root.{sqrt_of}
use Rattle.monna.specs.declared.rng.SimpleRng.{SimpleRng}
use Rattle.monna.specs.declared.rng.Draw.{Draw}

abbrev pub next_state : ℕ → ℕ
next_state s = (s * 6364136223846793005 + 1442695040888963407) % 2 ^ 64

-- the state after n draws
unfoldable pub drawn : ℕ → ℕ → ℕ
drawn zero s = s
drawn (suc n) s = drawn n (next_state s)

unfoldable pub two_to53 : Float
two_to53 = fraction false (2 ^ 53) 1

pub two_to53_bits : bits 0x4340000000000000 ≡ two_to53
unfolding two_to53 of_bits round
two_to53_bits = refl

-- the state's highest 53 binary digits, behind the point
abbrev pub uniform_of : ℕ → Float
uniform_of s = of_int binary64 (pos (s / 2048)) ⊘ two_to53

unfoldable pub draw_of : SimpleRng → Draw
draw_of g = record { value = uniform_of (next_state g.state); rng = record { state = next_state g.state } }

-- the least number whose logarithm is taken: 1e-15
unfoldable pub least_uniform : Float
least_uniform = decimal 1 15

pub least_uniform_bits : bits 0x3cd203af9ee75616 ≡ least_uniform
unfolding least_uniform of_bits round
least_uniform_bits = refl

-- √(−2 ln u₁) cos(2π u₂), with u₁ held to 1e-15
unfoldable pub box_muller : Float → Float → Float
box_muller u1 u2 = sqrt_of (neg two ⊗ ln_of (max_of u1 least_uniform)) ⊗ cos_of (two ⊗ pi ⊗ u2)

unfoldable pub gaussian_of : SimpleRng → Draw
gaussian_of g =
    let a = draw_of g in
    let b = draw_of a.rng in
    record { value = box_muller a.value b.value; rng = b.rng }

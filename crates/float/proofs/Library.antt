-- What the library's methods give is what document 01 says. Assumes nothing.
use Rattle.std.proofs.Common.{◌≡◌, ℕ, ◌+◌, ◌-◌, ◌*◌, ◌/◌, ◌<◌, true, false, refl, ap, ◌∙◌, arith}
use Rattle.std.specs.Float.{float_with_sign, float_signum, round_with, floor, float_round}
use lib.Ieee.{Float, nan, inf, fin, binary64, up, down, neg, div, of_bits, round}
use lib.Ieee.Fits.{down_pos}
use Rattle.float.specs.Ops.{◌⊗◌, ◌⊘◌, bits, one, abs_of, signum_of, floor_of, whole_of, round_of, degrees_of, degrees_per_radian_bits, radians_of, radians_per_degree_bits}

pub abs_is : (v : Float) → float_with_sign false v ≡ abs_of v
unfolding float_with_sign abs_of
abs_is nan = refl
abs_is (inf s) = refl
abs_is (fin s m e) = refl

pub signum_is : (v : Float) → float_signum v ≡ signum_of v
unfolding float_signum signum_of one neg round
signum_is nan = refl
signum_is (inf true) = refl
signum_is (inf false) = refl
signum_is (fin true m e) = refl
signum_is (fin false m e) = refl

pub floor_is : (v : Float) → floor binary64 v ≡ floor_of v
unfolding round_with floor_of
floor_is nan = refl
floor_is (inf s) = refl
floor_is (fin false m e) = refl
floor_is (fin true m e) = ap (λ (n : ℕ). round binary64 true (n / down e) 1) (less (m * up e) (down e) (down_pos e))
  where
    less : (a d : ℕ) → 0 < d → a + d - 1 ≡ a + (d - 1)
    less a d h = omega arith

pub round_is : (v : Float) → float_round binary64 v ≡ round_of v
unfolding round_with round_of whole_of
round_is nan = refl
round_is (inf s) = refl
round_is (fin true m e) = refl
round_is (fin false m e) = refl

-- ---- 180/π and π/180
degrees : div binary64 (bits 0x4066800000000000) (bits 0x400921fb54442d18) ≡ bits 0x404ca5dc1a63c1f8
unfolding div of_bits round
degrees = refl

radians : div binary64 (bits 0x400921fb54442d18) (bits 0x4066800000000000) ≡ bits 0x3f91df46a2529d39
unfolding div of_bits round
radians = refl

pub degrees_is : (v : Float) → v ⊗ (bits 0x4066800000000000 ⊘ bits 0x400921fb54442d18) ≡ degrees_of v
unfolding degrees_of
degrees_is v = ap (λ (x : Float). v ⊗ x) (degrees ∙ degrees_per_radian_bits)

pub radians_is : (v : Float) → v ⊗ (bits 0x400921fb54442d18 ⊘ bits 0x4066800000000000) ≡ radians_of v
unfolding radians_of
radians_is v = ap (λ (x : Float). v ⊗ x) (radians ∙ radians_per_degree_bits)

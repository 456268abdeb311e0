-- A shift by a saturated cast, by its size. Assumes nothing.
use Rattle.std.proofs.Common.{◌≡◌, ℕ, zero, suc, ◌+◌, ◌-◌, ◌*◌, min, true, false, pos, neg_ℤ, sym, refl, ap, ◌∙◌, zero-mul, arith}
use lib.Ieee.{Float, lt, neg, to_unsigned, to_signed}
use Rattle.float.specs.Ops.{bits}
use Rattle.float.proofs.Saturate.{signed_below, signed_above}
use Rattle.moment.specs.Time.{moved_of}

back : (t u k : ℕ) → t - k * u ≡ moved_of t u (neg_ℤ (pos k))
unfolding moved_of
back t u zero = rw zero-mul (omega arith)
back t u (suc k) = refl

pub moved_below : (t u k : ℕ) (x : Float) → lt x (bits 0) ≡ true → k ≡ min (to_unsigned 64 (neg x)) 9223372036854775808 → t - k * u ≡ moved_of t u (to_signed 63 x)
moved_below t u k x h e = back t u k ∙ ap (λ (n : ℕ). moved_of t u (neg_ℤ (pos n))) e ∙ ap (moved_of t u) (sym (signed_below x h))

pub moved_above : (t u k : ℕ) (x : Float) → lt x (bits 0) ≡ false → k ≡ min (to_unsigned 64 x) 9223372036854775807 → t + k * u ≡ moved_of t u (to_signed 63 x)
unfolding moved_of
moved_above t u k x h e = ap (λ (n : ℕ). t + n * u) e ∙ ap (moved_of t u) (sym (signed_above x h))

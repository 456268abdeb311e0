-- `decimal::ratio::pattern` meets its contract. Assumes nothing.
use mathlib.Core.Path.{◌≡◌, refl, ap, ◌∙◌}
use mathlib.Core.Bool.{Bool, true, false, cond}
use Prim.Native.Nat.{ℕ, ◌+◌, ◌*◌, ◌^◌}
use native.Mathlib.Nat.{zero-mul}
use native.Mathlib.Omega.{arith}
use lib.IntN.{pos}
use lib.Ieee.{binary64, round, of_bits, fin}
use Rattle.decimal.proofs.Round.{ten_pos}
use Rattle.decimal.proofs.Near.{round_zero}
use Rattle.decimal.proofs.ratio.pattern.Goals as goal

zero_bits : (s : Bool) → fin s 0 (pos 0) ≡ of_bits binary64 (cond s (2 ^ 63) 0 + 0)
unfolding of_bits
zero_bits true = refl
zero_bits false = refl

pub returns-then-d-eq0 : goal.returns-then-d-eq0
returns-then-d-eq0 c =
    let a = c.args in
    record {
      small = omega arith;
      is = λ s.
          ap (λ (x : ℕ). round binary64 s (x * 10 ^ a.up) (10 ^ a.down)) c.if-d-eq0.true
          ∙ ap (λ (x : ℕ). round binary64 s x (10 ^ a.down)) (zero-mul (10 ^ a.up))
          ∙ round_zero s (10 ^ a.down) (ten_pos a.down)
          ∙ zero_bits s;
    }

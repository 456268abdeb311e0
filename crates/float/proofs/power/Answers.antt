use Rattle.std.proofs.Common.{◌≡◌, ℕ, suc, ◌+◌, ◌-◌, ◌<◌, sym, ap, ◌∙◌, arith}
use native.Mathlib.Nat.{sub-zero}
use lib.Ieee.{Float}
use Rattle.float.specs.Ops.{◌⊗◌, raised, power_of, one_bits}
use Rattle.float.proofs.power.Goals as goal

turn : (v product : Float) (n k : ℕ) → k < n → raised v (n - (k + 1)) (product ⊗ v) ≡ raised v (n - k) product
unfolding raised
turn v product n k h = let e : n - k ≡ suc (n - (k + 1)) = omega arith in sym (ap (λ (j : ℕ). raised v j product) e)

done : (v product : Float) (left : ℕ) → left ≡ 0 → raised v left product ≡ product
unfolding raised
done v product left h = ap (λ (k : ℕ). raised v k product) h

pub loop-init : goal.loop-init
unfolding power_of
loop-init c = simp (one_bits, sub-zero)

pub loop-preserved : goal.loop-preserved
loop-preserved c = turn _ _ _ _ c.loop-test.true ∙ c.loop.invariant

pub returns : goal.returns
returns c = let e : c.args.n - c.loop.counter ≡ 0 = omega arith in sym (done _ _ _ e) ∙ c.loop.invariant

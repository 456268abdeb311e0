-- Whole units of a length of time, where so many units make a second. Assumes nothing.
use Rattle.std.proofs.Common.{◌≡◌, ℕ, zero, suc, ◌+◌, ◌*◌, ◌/◌, ◌%◌, ◌<◌, sym, ap, ◌∙◌, add-mul, mul_comm, mul_assoc, zero-mul, arith}
use Rattle.std.proofs.Math.Nat.{mul-add-div_right}
use Rattle.std.proofs.lemmas.Nat.{div-add-mod'}

-- s seconds are s times p units of u nanoseconds
seconds : (s u p : ℕ) → u * p ≡ 1000000000 → s * 1000000000 ≡ s * p * u
seconds s u p h = ap (λ (x : ℕ). s * x) (sym h ∙ mul_comm u p) ∙ sym (mul_assoc s p u)

pub split : (n u p : ℕ) → u * p ≡ 1000000000 → n / p * 1000000000 + n % p * u ≡ n * u
split n u p h =
    ap (λ (x : ℕ). x + n % p * u) (seconds (n / p) u p h) ∙ sym (add-mul (n / p * p) (n % p) u) ∙ ap (λ (x : ℕ). x * u) (div-add-mod' n p)

some : (u p : ℕ) → u * p ≡ 1000000000 → 0 < u
some zero p h = let z : 0 ≡ 1000000000 = sym (zero-mul p) ∙ h in absurd (omega (arith, z))
some (suc u) p h = omega arith

pub whole : (s n u p : ℕ) → u * p ≡ 1000000000 → s * p + n / u ≡ (s * 1000000000 + n) / u
whole s n u p h =
    sym (mul-add-div_right (some u p h) (s * p) n) ∙ ap (λ (x : ℕ). (x + n) / u) (sym (seconds s u p h))

-- `scratch_size` meets its contract. Assumes nothing.
use mathlib.Core.Path.{refl}
use Prim.Native.Nat.{ℕ, ◌+◌, ◌*◌, ◌≤◌}
use native.Mathlib.Nat.{mul-le-mul}
use native.Mathlib.Omega.{arith}
use Rattle.arguments.specs.Refusals.{scratch_size}
use Rattle.arguments.proofs.scratch_size.Goals as goal

-- the table is at most 4,144 rows of 69
table : (s p : ℕ) → s ≤ 4096 → p ≤ 16 → (s + 3 * p) * (5 + 4 * p) ≤ 4144 * 69
table s p h l = mul-le-mul {n₁ = s + 3 * p} {m₁ = 5 + 4 * p} {n₂ = 4144} {m₂ = 69} (omega arith) (omega arith)

pub overflow_mul-result-3 : goal.overflow_mul-result-3
overflow_mul-result-3 c = record { fits = omega (arith, table c.args.samples c.args.passes c.requires.0 c.requires.1) }

pub overflow_add-result-3 : goal.overflow_add-result-3
overflow_add-result-3 c = record { fits = omega (arith, table c.args.samples c.args.passes c.requires.0 c.requires.1) }

pub returns : goal.returns
unfolding scratch_size
returns c = refl

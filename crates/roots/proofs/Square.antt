-- The arithmetic of `root_by_digits` and `corrected_root`: the whole number nearest to a root by the rest of its square. Assumes nothing.
use mathlib.Core.Path.{◌≡◌, sym, subst}
use Prim.Native.Nat.{ℕ, zero, suc, ◌+◌, ◌-◌, ◌*◌, ◌≤◌, ◌<◌}
use native.Mathlib.Nat.{lt_irrefl}
use native.Mathlib.Omega.{arith}
use Rattle.roots.specs.Power.{square}
use Rattle.roots.specs.Nearest.{Nearest}
use Rattle.roots.proofs.Value.{odd_below, odd_above}

-- (q - 1/2) ^ 2 < n < (q + 1/2) ^ 2, of whole numbers
pub by_rest : (n q : ℕ) → 0 < q → q * q < n + q → n ≤ q * q + q → Nearest square n q
by_rest n zero s a b = absurd (lt_irrefl 0 s)
by_rest n (suc p) s a b = record { some = s; below = subst (λ (z : ℕ). square z < 4 * n) (sym (odd_below p)) (omega arith); above = subst (λ (z : ℕ). 4 * n < square z) (sym (odd_above p)) (omega arith) }

-- the same of q + 1 and q - 1
pub rise : (n q : ℕ) → q * q + q < n → n ≤ q * q + q * 3 + 2 → Nearest square n (q + 1)
rise n q a b = by_rest n (q + 1) (omega arith) (omega arith) (omega arith)

pub fall : (n q : ℕ) → 1 < q → q * q + 2 < n + q * 3 → n + q ≤ q * q → Nearest square n (q - 1)
fall n zero p a b = absurd (none p)
  where
    none : 1 < 0 → ⊥
    none h = omega arith
fall n (suc r) p a b = subst (λ (z : ℕ). Nearest square n z) (back r) (by_rest n r (omega arith) (omega arith) (omega arith))
  where
    back : (r : ℕ) → r ≡ suc r - 1
    back r = omega arith

-- A signed number of 64 bits and its two's complement. Assumes nothing.
use mathlib.Core.Path.{◌≡◌, refl, sym, ap, ◌∙◌, subst}
use Prim.Native.Nat.{ℕ, zero, suc, ◌-◌, ◌≤◌, ◌<◌}
use native.Mathlib.Omega.{arith}
use lib.IntN.{ℤ, pos, negsuc, ◌-ℤ◌}
use mir.Syntax.{w64}
use mir.Val.{SFits, to_z}
use mir.ValLaws.{to_z-of_z}

-- a number below 2 ^ 63 is read as itself
pub read_pos : (m : ℕ) → m < 9223372036854775808 → to_z w64 m ≡ pos m
read_pos m h = to_z-of_z w64 (pos m) (record { sfits = omega arith })

-- −1 − m
pub below_zero : (m : ℕ) → negsuc 0 -ℤ pos m ≡ negsuc m
below_zero zero = refl
below_zero (suc m) = ap negsuc (omega arith)

-- one from 2 ^ 63 on, as the code reads it
module _ (u : ℕ) (h : 9223372036854775808 ≤ u) (g : u < 18446744073709551616) where
  pub difference : negsuc 0 -ℤ to_z w64 (18446744073709551615 - u) ≡ negsuc (18446744073709551615 - u)
  difference = ap (λ (z : ℤ). negsuc 0 -ℤ z) (read_pos (18446744073709551615 - u) (omega arith)) ∙ below_zero (18446744073709551615 - u)

  pub small : SFits w64 (negsuc (18446744073709551615 - u))
  small = record { sfits = omega arith }

  pub difference_fits : SFits w64 (negsuc 0 -ℤ to_z w64 (18446744073709551615 - u))
  difference_fits = subst (SFits w64) (sym difference) small

-- An angle that would print 360.0000 is printed as 0, any other as it is; so it is below a turn and within half a unit around the circle. Assumes nothing.
use mathlib.Core.Path.{◌≡◌, refl, sym, ap, ◌∙◌}
use mathlib.Core.Logic.{inl, inr}
use mathlib.Core.Bool.{Bool, true, false}
use Prim.Native.Nat.{ℕ, ◌+◌}
use native.Mathlib.Omega.{arith}
use lib.Dec.{eqb, lit<}
use lib.Ieee.{Float, lt, of_bits}
use borrow.Author.Tests.{eq-eqb, ne_eqb, eqb-true, eqb-false}
use Rattle.float.specs.Ops.{bits}
use Rattle.decimal.specs.Fixed.{within, nearest_units}
use Rattle.decimal.proofs.Theorems.{half_unit, decimal_le}
use Rattle.tle.specs.Elements.{whole_turn, within_turn}
use Rattle.tle.specs.Printed.{HalfUnit, AroundHalf}
use Rattle.tle.proofs.Ranges.{UpTo}

pub turn_zero : (v : Float) → nearest_units 4 v ≡ whole_turn → within_turn v ≡ bits 0
unfolding within_turn
turn_zero v e = simp (eq-eqb _ _ e)

pub turn_same : (v : Float) → (nearest_units 4 v ≡ whole_turn → ⊥) → within_turn v ≡ v
unfolding within_turn
turn_same v h = simp (ne_eqb _ _ h)

-- one of the two
pub data Turned (v : Float) : Type 0 where
  zeroed : nearest_units 4 v ≡ whole_turn → within_turn v ≡ bits 0 → Turned v
  same : (nearest_units 4 v ≡ whole_turn → ⊥) → within_turn v ≡ v → Turned v

pub turned : (v : Float) → Turned v
turned v = by_test (eqb (nearest_units 4 v) whole_turn) refl
  where
    by_test : (b : Bool) → eqb (nearest_units 4 v) whole_turn ≡ b → Turned v
    by_test true h = let e = eqb-true (nearest_units 4 v) whole_turn h in zeroed e (turn_zero v e)
    by_test false h = let n = eqb-false (nearest_units 4 v) whole_turn h in same n (turn_same v n)

-- ---- the zero
zero_up : UpTo 360 (bits 0)
unfolding of_bits within lt
zero_up = record { range = tt; size = omega arith }

zero_units : nearest_units 4 (bits 0) ≡ 0
unfolding of_bits
zero_units = refl

-- ---- an angle up to 360 degrees stays so, and prints below 360.0000
pub turn_up : (v : Float) → UpTo 360 v → UpTo 360 (within_turn v)
turn_up v u = up (turned v)
  where
    up : Turned v → UpTo 360 (within_turn v)
    up (zeroed h e) = rw e zero_up
    up (same h e) = rw e u

pub half : (p : ℕ) (v : Float) (m : ℕ) → UpTo m v → HalfUnit p v (nearest_units p v)
half p v m u = let f = half_unit p v in record { range = u.range; above = f.0; below = f.1 }

pub around : (v : Float) (N : ℕ) → UpTo 360 v → N ≡ nearest_units 4 (within_turn v) → AroundHalf 4 v N
around v N u d = by_case (turned v)
  where
    by_case : Turned v → AroundHalf 4 v N
    by_case (zeroed h e) =
        let z : N ≡ 0 = d ∙ ap (nearest_units 4) e ∙ zero_units in
        let t : N + 3600000 ≡ nearest_units 4 v = ap (λ (n : ℕ). n + 3600000) z ∙ sym h in
        record { below_turn = rw z (lit< tt); near = inr (rw t (half 4 v 360 u)) }
    by_case (same h e) =
        let s : N ≡ nearest_units 4 v = d ∙ ap (nearest_units 4) e in
        let l = decimal_le 4 360 v u.size in
        record { below_turn = omega (arith, s, l, h); near = inl (rw s (half 4 v 360 u)) }

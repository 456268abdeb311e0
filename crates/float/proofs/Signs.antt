-- What tests on a float say of its sign. Assumes nothing.
use Rattle.std.proofs.Common.{◌≡◌, ℕ, zero, ◌*◌, Bool, true, false, not, ℤ, refl, ap, arith, eq-eqb, eqb-true}
use lib.Ieee.{Float, nan, inf, fin, up, down, eq, ne, of_bits, is_nan, level}
use Rattle.laws.proofs.Tests.{and_left}
use Rattle.float.specs.Ops.{bits}

-- ---- NaN: what differs from itself
level_self : (s : Bool) (a : ℕ) → level s a s a ≡ true
level_self true a = rw (eq-eqb a a refl)
level_self false a = rw (eq-eqb a a refl)

pub nan_test : (v : Float) → ne v v ≡ is_nan v
unfolding ne eq is_nan
nan_test nan = refl
nan_test (inf true) = refl
nan_test (inf false) = refl
nan_test (fin s m e) = ap not (level_self s (m * up e * down e))

-- ---- zeros
-- a number equal to zero
pub none : (s : Bool) (m : ℕ) (e : ℤ) → eq (fin s m e) (bits 0) ≡ true → m * up e ≡ 0
unfolding eq of_bits
none s m e h = omega (arith, eqb-true (m * up e * 1) (0 * down e) (and_left _ _ h))

level_zero : (s : Bool) (a b : ℕ) → a ≡ 0 → b ≡ 0 → level s a false b ≡ true
level_zero true a b p q = rw (p, q)
level_zero false a b p q = rw (p, q)

pub zero_is : (s : Bool) (e : ℤ) → eq (fin s zero e) (bits 0) ≡ true
unfolding eq of_bits
zero_is s e = level_zero s (0 * up e * 1) (0 * down e) (omega arith) (omega arith)

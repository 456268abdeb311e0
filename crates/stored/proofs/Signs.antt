-- An i64's bits by two's complement. Assumes nothing.
use mathlib.Core.Path.{◌≡◌, refl, ap, ◌∙◌}
use mathlib.Core.Bool.{Bool, true, false, cond}
use mathlib.Core.List.{List}
use Prim.Native.Nat.{ℕ, ◌-◌}
use native.Mathlib.Omega.{arith}
use lib.Dec.{ltb}
use lib.IntN.{ℤ, pos, negsuc}
use mir.Syntax.{w64}
use mir.Val.{to_z, of_z}
use Rattle.std.specs.Int.{from_le_bytes, to_le_bytes}
use Rattle.stored.specs.Numbers.{little_endian, low_bytes, time_bits, time_of}
use Rattle.stored.proofs.Words.{from_double, to_bytes_8}

pub time_signed : (u : ℕ) → to_z w64 u ≡ time_of u
unfolding time_of
time_signed u = go (ltb u 9223372036854775808) refl
  where
    go : (b : Bool) → ltb u 9223372036854775808 ≡ b → to_z w64 u ≡ cond b (pos u) (negsuc (18446744073709551615 - u))
    go true e = simp e
    go false e = simp e (ap negsuc (omega arith))

pub time_unsigned : (t : ℤ) → of_z w64 t ≡ time_bits t
unfolding time_bits
time_unsigned (pos n) = refl
time_unsigned (negsuc n) = omega arith

pub time_from : (l : List ℕ) → to_z w64 (from_le_bytes w64 l) ≡ time_of (little_endian 8 l)
time_from l = time_signed (from_le_bytes w64 l) ∙ ap time_of (from_double l)

pub time_to : (t : ℤ) → to_le_bytes w64 (of_z w64 t) ≡ low_bytes 8 (time_bits t)
time_to t = to_bytes_8 (of_z w64 t) ∙ ap (low_bytes 8) (time_unsigned t)

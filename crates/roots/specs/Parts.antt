-- What the bit pattern of a finite number that is not negative stands for (IEEE 754's binary64 encoding). Definitions only.
use Rattle.std.specs.Prelude.{◌≡◌, cond, ℕ, ◌+◌, ◌-◌, ◌*◌, ◌/◌, ◌%◌, ◌^◌, ◌≤◌, ◌<◌, eqb}

-- the value of the pattern b, in units of 2 ^ -1074, the format's smallest value
unfoldable pub pattern_units : ℕ → ℕ
pattern_units b = let field = b / 4503599627370496 in cond (eqb field 0) b ((b % 4503599627370496 + 4503599627370496) * 2 ^ (field - 1))

-- the pattern b is m * 2 ^ e, in units of 2 ^ -1126, and m has 53 binary digits
pub record IsParts (b m e : ℕ) : Type 0 where
  pub least : 4503599627370496 ≤ m
  pub most : m < 9007199254740992
  pub small : e < 2098
  pub is : m * 2 ^ e ≡ pattern_units b * 2 ^ 52

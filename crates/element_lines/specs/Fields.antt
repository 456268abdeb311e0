-- A whole number as document 02 [2] lets it stand in its columns, said of the field and not column by column: 'blanks may replace leading zeros from
-- the left, save the last whole place'. proofs/Blanks.antt shows that the classes of the columns say the same.
use Rattle.std.specs.Prelude.{◌≡◌, Bool, true, ◌&&◌, List, [], ◌∷◌, ◌++◌, ℕ, ◌<◌, T, length, replicate}
use Rattle.text.specs.Text.{code}
use Rattle.decimal.specs.Read.{is_digit}

unfoldable pub all_digits : List ℕ → Bool
all_digits [] = true
all_digits (c ∷ l) = is_digit c && all_digits l

-- some blanks or none, then digits, one at least
pub record BlanksLead (l : List ℕ) : Type 0 where
  pub count : ℕ
  pub digits : List ℕ
  pub is : l ≡ replicate count (code " ") ++ digits
  pub all_digits_lem : T (all_digits digits)
  pub last_place : 0 < length digits

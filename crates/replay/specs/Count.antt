-- How many lines a text has, and what a tally counts of each. Definitions only.
use Rattle.std.specs.Prelude.{ℕ, suc, ◌+◌, Bool, true, false, cond, List, [], ◌∷◌, ◌≡◌, eqb}
use Rattle.text.specs.Text.{bytes, code}
use Rattle.answer_lines.specs.Lines.{begins_with, asked_fields, field_at}
use Rattle.replay.specs.declared.Tally.{Tally}

-- the lines of a text, where bytes of a line may stand before it: each ends with a line feed, the last one with the text perhaps
unfoldable pub lines_from : Bool → List ℕ → ℕ
lines_from begun [] = cond begun 1 0
lines_from begun (c ∷ l) = cond (eqb c (code "\n")) (suc (lines_from false l)) (lines_from true l)

unfoldable pub lines_in : List ℕ → ℕ
lines_in = lines_from false

-- all that a tally has counted
abbrev pub counted : Tally → ℕ
counted t = t.agreed + t.differed + t.caught + t.missed + t.ends

-- with one line more, which was changed or not, and agrees or not
unfoldable pub tally_with : Tally → Bool → Bool → Tally
tally_with t false true = record { agreed = t.agreed + 1; differed = t.differed; caught = t.caught; missed = t.missed; ends = t.ends; whole = false }
tally_with t false false = record { agreed = t.agreed; differed = t.differed + 1; caught = t.caught; missed = t.missed; ends = t.ends; whole = false }
tally_with t true false = record { agreed = t.agreed; differed = t.differed; caught = t.caught + 1; missed = t.missed; ends = t.ends; whole = false }
tally_with t true true = record { agreed = t.agreed; differed = t.differed; caught = t.caught; missed = t.missed + 1; ends = t.ends; whole = false }

-- with a last line, which says how many lines stand before it
unfoldable pub tally_ended : Tally → ℕ → Tally
tally_ended t said = record { agreed = t.agreed; differed = t.differed; caught = t.caught; missed = t.missed; ends = t.ends + 1; whole = eqb said (counted t) }

-- `end` marks a last line, `not` a changed one; whether a line agrees is found out by asking it
pub data Tallied (t : Tally) (line : List ℕ) (r : Tally) : Type 0 where
  last : begins_with (bytes "end ") line ≡ true → r ≡ tally_ended t (field_at (asked_fields line) 0) → Tallied t line r
  asked : begins_with (bytes "end ") line ≡ false → (same : Bool) → r ≡ tally_with t (begins_with (bytes "not ") line) same → Tallied t line r

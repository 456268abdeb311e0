-- Which lines of a pass file were skipped, and which was refused.
use Rattle.std.specs.Prelude.{Bool, cond, List, [], ◌∷◌, ℕ, ◌+◌, ◌<◌, eqb, length, is_some, Option, Some, None, Result, Ok, Err}
use Rattle.passes.specs.Text.{Placed, trim}
use Rattle.passes.specs.Line.{line_of}
use Rattle.passes.specs.declared.line.Line.{Line}
use Rattle.passes.specs.declared.line.Line.TheVariants.{Skipped, Name, Center, Sample}
use Rattle.refusal.specs.declared.Refusal.{Refusal}
use Rattle.survey.specs.declared.Class.{Class}
use Rattle.survey.specs.declared.Class.TheVariants.{Blank, Unread, Used, Refused}
use Rattle.survey.specs.declared.Tally.{Tally}

abbrev pub class_of : Result Line Refusal → Bool → Class
class_of (Ok Skipped) blank = cond blank Blank Unread
class_of (Err r) blank = Refused
class_of (Ok (Name n)) blank = Used
class_of (Ok (Center f)) blank = Used
class_of (Ok (Sample t f)) blank = Used

-- the first of two lines, of which there may be no earlier one
abbrev pub first_line : Option ℕ → ℕ → Option ℕ
first_line None line = Some line
first_line (Some first) line = Some first

-- one line more
unfoldable pub counting : Tally → Class → Tally
counting s Blank = record { lines = s.lines + 1; used = s.used; skipped = s.skipped; first = s.first; refused = s.refused }
counting s Unread = record { lines = s.lines + 1; used = s.used; skipped = s.skipped + 1; first = first_line s.first (s.lines + 1); refused = s.refused }
counting s Used = record { lines = s.lines + 1; used = s.used + 1; skipped = s.skipped; first = s.first; refused = s.refused }
counting s Refused = record { lines = s.lines + 1; used = s.used; skipped = s.skipped; first = s.first; refused = Some (s.lines + 1) }

abbrev pub open_tally : Tally
open_tally = record { lines = 0; used = 0; skipped = 0; first = None; refused = None }

-- all lines, up to the first that is refused
unfoldable pub surveyed : Tally → List Placed → Tally
surveyed s [] = s
surveyed s (l ∷ ls) = cond (is_some s.refused) s (surveyed (counting s (class_of (line_of l.bytes) (eqb (length (trim l.bytes)) 0))) ls)

-- no count is near the end of its range
pub record Small (s : Tally) : Type 0 where
  pub lines : s.lines < 18446744073709551615
  pub used : s.used < 18446744073709551615
  pub skipped : s.skipped < 18446744073709551615

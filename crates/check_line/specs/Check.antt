-- Document 01's checking program: 'reads one pass file, its first 32 KiB if longer, from standard input and prints name, sample count,
-- refusal number (0 if none). .. A refusal prints -, 0, its number.'
use Rattle.std.specs.Prelude.{ℕ, ◌≤◌, ◌≡◌, List, ◌++◌, length, take, Option, Some, None, Result, Ok, Err}
use Rattle.std.proofs.lemmas.List.Edits.{sets}
use Rattle.text.specs.Text.{bytes}
use Rattle.append.specs.Append.{numeral}
use Rattle.passes.specs.File as File
use Rattle.passes.specs.declared.file.PassFile.{PassFile}
use Rattle.passes.specs.declared.pieces.Span.{Span}
use Rattle.refusal.specs.declared.Refusal.{Refusal}
use Rattle.refusal.specs.Refusals.{number_of}

-- a name that was not seen prints as UNKNOWN
abbrev pub part_shown : List ℕ → Option Span → List ℕ
part_shown file (Some n) = File.name_at file n
part_shown file None = bytes "UNKNOWN"

abbrev pub name_shown : List ℕ → PassFile → List ℕ
name_shown file r = part_shown file r.name

unfoldable pub accepted_line : List ℕ → PassFile → List ℕ
accepted_line file r = name_shown file r ++ (bytes " " ++ (numeral r.count ++ bytes " 0\n"))

unfoldable pub refused_line : ℕ → List ℕ
refused_line k = bytes "- 0 " ++ (numeral k ++ bytes "\n")

abbrev pub answer_line : List ℕ → Result PassFile Refusal → List ℕ
answer_line file (Ok r) = accepted_line file r
answer_line file (Err k) = refused_line (number_of k)

-- the program has room for 4,096 samples
abbrev pub file_line : List ℕ → List ℕ
file_line file = answer_line file (File.answer file 4096 4096)

-- the line of a file, its first 32 KiB if longer
unfoldable pub check_line : List ℕ → List ℕ
check_line file = file_line (take 32768 file)

-- What `check_line` promises: the line, which has room, in the first n bytes of `out`, and nothing else written.
pub record Checks (file out out' : List ℕ) (n : ℕ) : Type 0 where
  pub is : out' ≡ sets out 0 (check_line file)
  pub counted : n ≡ length (check_line file)
  pub room : n ≤ length out'

-- The line that `read_lines` prints of its input: of element lines their six numbers, refused - and the number of the refusal.
use Rattle.std.specs.Prelude.{ℕ, ◌≤◌, ◌≡◌, List, [], ◌++◌, map, length, get_or, take, Result, Ok, Err}
use Rattle.std.proofs.lemmas.List.Edits.{sets}
use Rattle.text.specs.Text.{bytes}
use Rattle.refusal.specs.Refusals.{number_of}
use Rattle.refusal.specs.declared.Refusal.{Refusal}
use Rattle.append.specs.Append.{numeral}
use Rattle.passes.specs.Text.{lines}
use Rattle.element_lines.specs.Reading.{read_element_lines_of}
use Rattle.element_lines.specs.declared.Elements.{Elements}

-- line k of a text, counted from 0, without its end: empty where there is none
unfoldable pub line_at : ℕ → List ℕ → List ℕ
line_at k text = get_or (map (λ l. l.bytes) (lines 0 text)) k []

-- a number and the blank behind it
abbrev pub item : ℕ → List ℕ
item n = numeral n ++ bytes " "

unfoldable pub numbers_line : Elements → List ℕ
numbers_line e =
    item e.year ++ (item e.day ++ (item e.inclination ++ (item e.node ++ (item e.mean_anomaly ++ (numeral e.mean_motion ++ bytes "\n")))))

unfoldable pub refusal_shown : ℕ → List ℕ
refusal_shown k = bytes "- " ++ (numeral k ++ bytes "\n")

abbrev pub elements_line : Result Elements Refusal → List ℕ
elements_line (Ok e) = numbers_line e
elements_line (Err r) = refusal_shown (number_of r)

-- the line of a text: its first two lines are read
abbrev pub text_line : List ℕ → List ℕ
text_line text = elements_line (read_element_lines_of (line_at 0 text) (line_at 1 text))

-- the line of an input: its first 256 bytes are read
unfoldable pub shown_line : List ℕ → List ℕ
shown_line input = text_line (take 256 input)

-- What `show_elements` promises: the line, which has room, in the first n bytes of `out`, and nothing else written.
pub record Shows (input out out' : List ℕ) (n : ℕ) : Type 0 where
  pub is : out' ≡ sets out 0 (shown_line input)
  pub counted : n ≡ length (shown_line input)
  pub room : n ≤ length out'

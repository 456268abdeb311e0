-- What the program prints of a tally. Definitions only.
use Rattle.std.specs.Prelude.{ℕ, ◌≡◌, Bool, cond, List, ◌++◌, length}
use Rattle.std.proofs.lemmas.List.Edits.{sets}
use Rattle.text.specs.Text.{bytes}
use Rattle.append.specs.Append.{numeral}
use Rattle.replay.specs.declared.Tally.{Tally}

abbrev pub list_ending : Bool → List ℕ
list_ending whole = cond whole (bytes "whole\n") (bytes "cut\n")

-- as `11 agree, 0 differ; changed lines: 3 differ, 0 agree; the list is whole`
unfoldable pub report_text : Tally → List ℕ
report_text t =
    (numeral t.agreed ++ bytes " agree, ")
    ++ ((numeral t.differed ++ bytes " differ; changed lines: ")
    ++ ((numeral t.caught ++ bytes " differ, ") ++ ((numeral t.missed ++ bytes " agree; the list is ") ++ list_ending t.whole)))

-- the whole text stands in the first n bytes, and nothing else is written
pub record Reports (t : Tally) (out out' : List ℕ) (n : ℕ) : Type 0 where
  pub is : out' ≡ sets out 0 (report_text t)
  pub counted : n ≡ length (report_text t)
  pub sized : length out' ≡ 160

-- The name that a pass file gives, said without places: the trimmed value of its last good satellite_name line.
use Rattle.std.specs.Prelude.{ℕ, ◌+◌, not, cond, List, [], ◌∷◌, ltb, eqb, length, get_or, take, drop, Some, None}
use Rattle.std.specs.Prelude.{Option as Seen}
use Rattle.std.proofs.Math.Option.{Option, none, some}
use Rattle.text.specs.Text.{bytes, code}
use Rattle.decimal.specs.Read.{spells}
use Rattle.passes.specs.Text.{Placed, trim, until, ascii}
use Rattle.passes.specs.File.{name_of}
use Rattle.passes.specs.declared.pieces.Span.{Span}
use Rattle.passes.specs.declared.file.PassFile.{PassFile}

-- key, colon, value: the value, trimmed, where the key, trimmed, is satellite_name in any case of its letters
unfoldable pub value_of : List ℕ → Option (List ℕ)
value_of h =
    let k = until (code ":") h in
    cond (eqb k (length h)) none
    (cond (spells (trim (take k h)) (bytes "satellite_name")) (some (trim (drop (k + 1) h))) none)

-- a header begins with #
unfoldable pub headed : List ℕ → Option (List ℕ)
headed t = cond (eqb (get_or t 0 0) (code "#")) (value_of (drop 1 t)) none

-- the name that a line gives; one that is refused gives none
unfoldable pub called_in : List ℕ → Option (List ℕ)
called_in l = cond (not (ascii l)) none (cond (ltb 256 (length l)) none (headed (trim l)))

abbrev pub later : Option (List ℕ) → Option (List ℕ) → Option (List ℕ)
later none n = n
later (some v) n = some v

-- the last one of the lines, after n
unfoldable pub last_called : Option (List ℕ) → List Placed → Option (List ℕ)
last_called n [] = n
last_called n (l ∷ ls) = last_called (later (called_in l.bytes) n) ls

-- this name, where one was seen
abbrev pub where_seen : Seen Span → List ℕ → Option (List ℕ)
where_seen None name = none
where_seen (Some n) name = some name

-- the name part of an answer
abbrev pub part_of : List ℕ → PassFile → Option (List ℕ)
part_of file r = where_seen r.name (name_of file r)

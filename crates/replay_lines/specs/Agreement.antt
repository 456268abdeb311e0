-- When element lines agree with those that the original printed, by document 02 [3]. Definitions only.
use Rattle.std.specs.Prelude.{ℕ, zero, suc, ◌+◌, ◌-◌, Bool, ◌&&◌, ◌||◌, cond, List, [], ◌∷◌, eqb, leb, length, get_or, take, drop, Result, Ok, Err}
use Rattle.text.specs.Text.{bytes, code}
use Rattle.answer_lines.specs.Lines.{begins_with, fields_from, field_at, packed_byte}
use Rattle.refusal.specs.Refusals.{number_of}
use Rattle.refusal.specs.declared.Refusal.{Refusal}
use Rattle.tle.specs.Lines.{checksum_of}
use Rattle.tle.specs.Printed.{columns_of}

-- ---- line 2 with its line feed: s as the original printed it, w as it is written; columns are counted from 1

-- the same bytes, of as many columns
unfoldable pub same_columns : ℕ → ℕ → List ℕ → List ℕ → Bool
same_columns a b s w = begins_with (columns_of a b s) (columns_of a b w)

-- the original printed 360.0000 in columns a to b, eight of them
unfoldable pub is_turn : ℕ → ℕ → List ℕ → Bool
is_turn a b s = begins_with (bytes "360.0000") (columns_of a b s)

-- an angle is written 0.0000 where the original printed 360.0000, else as the original printed it
unfoldable pub same_angle : ℕ → ℕ → List ℕ → List ℕ → Bool
same_angle a b s w = cond (is_turn a b s) (begins_with (bytes "  0.0000") (columns_of a b w)) (same_columns a b s w)

-- node and mean anomaly
unfoldable pub same_angles : List ℕ → List ℕ → Bool
same_angles s w = same_angle 18 25 s w && same_angle 44 51 s w

-- column 69 is the checksum of the columns before it
unfoldable pub own_sum : List ℕ → Bool
own_sum w = eqb (get_or w 68 0) (checksum_of (take 68 w) + code "0")

-- the checksum is right for the line as it is written, and it is the original's unless an angle is written otherwise
unfoldable pub same_sum : List ℕ → List ℕ → Bool
same_sum s w = own_sum w && (is_turn 18 25 s || (is_turn 44 51 s || same_columns 69 69 s w))

-- all columns but those of the two angles and the checksum, and the line feed, are the same
unfoldable pub same_rest : List ℕ → List ℕ → Bool
same_rest s w = same_columns 1 17 s w && (same_columns 26 43 s w && (same_columns 52 68 s w && same_columns 70 70 s w))

unfoldable pub line2_agrees : List ℕ → List ℕ → Bool
line2_agrees s w = same_rest s w && (same_angles s w && same_sum s w)

-- ---- a name, line 1 and line 2, each with its line feed: as many bytes, line 2 the last 70, and what stands before it the same
unfoldable pub text_agrees : List ℕ → List ℕ → Bool
text_agrees s w =
    let at = length w - 70 in
    eqb (length s) (length w) && (leb 70 (length w) && (begins_with (take at s) w && line2_agrees (drop at s) (drop at w)))

-- ---- stored answers

-- n bytes from byte i on, which lie eight to a field
unfoldable pub packed_bytes : List ℕ → ℕ → ℕ → List ℕ
packed_bytes fields i zero = []
packed_bytes fields i (suc n) = packed_byte fields i ∷ packed_bytes fields (i + 1) n

-- the stored text, behind its length, agrees with the first n bytes; no text is longer than 165, that of a name of 24 bytes
unfoldable pub stored_agrees : List ℕ → ℕ → List ℕ → Bool
stored_agrees fields n text = eqb (field_at fields 0) n && (leb n 165 && (leb n (length text) && text_agrees (packed_bytes (fields_from 1 fields) 0 n) (take n text)))

-- the refusal is the same, and where it is 0 the text agrees
unfoldable pub lines_agree : List ℕ → Result ℕ Refusal → List ℕ → Bool
lines_agree fields (Ok n) text = eqb (field_at fields 0) 0 && stored_agrees (fields_from 1 fields) n text
lines_agree fields (Err r) text = eqb (field_at fields 0) (number_of r)

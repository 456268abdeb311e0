-- What a line of a pass file says.
use Rattle.std.specs.Prelude.{ℕ, ◌+◌, ◌*◌, Bool, not, ◌&&◌, cond, List, leb, ltb, eqb, ℤ, length, get_or, take, drop, Option, Some, None, Result, Ok, Err}
use Rattle.std.proofs.Math.IntN.{sub_ℕ}
use Rattle.text.specs.Text.{bytes, code}
use Rattle.decimal.specs.Read.{Number, spells, number}
use Rattle.decimal.specs.declared.read.NumberError.TheVariants.{NotANumber, TooLong}
use Rattle.moment.specs.Origin.{per_second, reader1970}
use Rattle.moment.specs.Sample.{time_in_range}
use Rattle.rfc3339.specs.Rfc3339.{date_time_of}
use Rattle.rfc3339.specs.declared.Timestamp.{Timestamp}
use Rattle.refusal.specs.declared.Refusal.{Refusal}
use Rattle.refusal.specs.declared.Refusal.TheVariants.{NonAscii, LongLine, NumberSize, MomentRange}
use Rattle.passes.specs.Text.{blanks, trim, until, ascii}
use Rattle.passes.specs.declared.pieces.Span.{Span}
use Rattle.passes.specs.declared.line.Line.{Line}
use Rattle.passes.specs.declared.line.Line.TheVariants.{Skipped, Name, Center, Sample}

-- nanoseconds since 1970, of s and n as RFC 3339's reader counts them
abbrev pub since1970 : ℕ → ℕ → ℤ
since1970 s n = sub_ℕ (s * per_second + n) (reader1970 * per_second)

-- else refusal 4
unfoldable pub inside : ℕ → ℕ → Bool
inside s n = time_in_range (since1970 s n) && leb n 999999999

-- a moment and a number make a sample; 4 goes before 3
abbrev pub sample_of : Timestamp → Number → Result Line Refusal
sample_of t (Err NotANumber) = Ok Skipped
sample_of t (Ok f) = cond (inside t.seconds t.nanos) (Ok (Sample (since1970 t.seconds t.nanos) f)) (Err MomentRange)
sample_of t (Err TooLong) = cond (inside t.seconds t.nanos) (Err NumberSize) (Err MomentRange)

abbrev pub pair_of : Option Timestamp → Number → Result Line Refusal
pair_of None v = Ok Skipped
pair_of (Some t) v = sample_of t v

-- the first field is a time, the second, up to the next comma, a number
unfoldable pub fields : List ℕ → List ℕ → Result Line Refusal
fields a r = pair_of (date_time_of a) (number (take (until (code ",") r) r))

unfoldable pub sample : List ℕ → Result Line Refusal
sample t = let k = until (code ",") t in cond (eqb k (length t)) (Ok Skipped) (fields (take k t) (drop (k + 1) t))

abbrev pub center_line : Number → Result Line Refusal
center_line (Err NotANumber) = Ok Skipped
center_line (Ok f) = Ok (Center f)
center_line (Err TooLong) = Err NumberSize

abbrev pub part : ℕ → ℕ → Span
part s e = record { start = s; end = e }

-- satellite_name, center_frequency: in any case of their letters. The value v, not yet trimmed, stands at s in the line.
unfoldable pub named : List ℕ → ℕ → List ℕ → Result Line Refusal
named key s v =
    cond (spells key (bytes "satellite_name")) (Ok (Name (part (s + blanks v) (s + (blanks v + length (trim v))))))
    (cond (spells key (bytes "center_frequency")) (center_line (number (trim v))) (Ok Skipped))

-- what stands at s behind a header's #: key, colon, value
unfoldable pub header : ℕ → List ℕ → Result Line Refusal
header s h = let k = until (code ":") h in cond (eqb k (length h)) (Ok Skipped) (named (trim (take k h)) (s + (k + 1)) (drop (k + 1) h))

-- a line without the blanks at its ends, of which s stood before it
unfoldable pub trimmed_line : ℕ → List ℕ → Result Line Refusal
trimmed_line s t = cond (eqb (length t) 0) (Ok Skipped) (cond (eqb (get_or t 0 0) (code "#")) (header (s + 1) (drop 1 t)) (sample t))

unfoldable pub line_of : List ℕ → Result Line Refusal
line_of l = cond (not (ascii l)) (Err NonAscii) (cond (ltb 256 (length l)) (Err LongLine) (trimmed_line (blanks l) (trim l)))

-- What a position line says: latitude, longitude and height with commas between them.
use Rattle.std.specs.Prelude.{Bool, true, false, not, ◌&&◌, ◌||◌, cond, List, [], ◌∷◌, map, ℕ, ◌-◌, ltb, eqb, Float, length, get_or, Option, Result, Ok, Err}
use Rattle.std.specs.Float.{nan}
use Rattle.text.specs.Text.{code}
use Rattle.decimal.specs.Read.{Number, number}
use Rattle.decimal.specs.declared.read.NumberError.TheVariants.{NotANumber, TooLong}
use Rattle.passes.specs.Text.{trim, ascii}
use Rattle.frame.specs.declared.Vec3.{Vec3}
use Rattle.refusal.specs.declared.Refusal.{Refusal}
use Rattle.refusal.specs.declared.Refusal.TheVariants.{NonAscii, LongLine, NumberSize, PositionRange}
use Rattle.refusal.specs.Refusals.{Check, first_of, ◌when◌, answer}
use Rattle.geodetic.specs.Ellipsoid.{off_limits, earth_fixed}

-- how many bytes a line has without its end: an LF, or a CR and an LF, behind everything else
unfoldable pub line_size : List ℕ → ℕ
line_size l =
    let n = length l in
    cond (eqb (get_or l (n - 1) 0) (code "\n")) (cond (eqb (get_or l (n - 2) 0) (code "\r")) (n - 2) (n - 1)) n

-- c before the first field
unfoldable pub onto_first : ℕ → List (List ℕ) → List (List ℕ)
onto_first c [] = (c ∷ []) ∷ []
onto_first c (f ∷ fs) = (c ∷ f) ∷ fs

-- what stands between commas: a field more than there are commas
unfoldable pub fields_of : List ℕ → List (List ℕ)
fields_of [] = [] ∷ []
fields_of (c ∷ l) = cond (eqb c (code ",")) ([] ∷ fields_of l) (onto_first c (fields_of l))

-- what the fields come to, each as it stands: a blank in a field belongs to it
abbrev pub field_numbers : List ℕ → List Number
field_numbers l = map number (fields_of (trim l))

-- Rust would parse it
abbrev pub parsed : Number → Bool
parsed (Err NotANumber) = false
parsed (Ok v) = true
parsed (Err TooLong) = true

-- it has too many digits or too large an exponent
abbrev pub too_long : Number → Bool
too_long (Err NotANumber) = false
too_long (Ok v) = false
too_long (Err TooLong) = true

-- NaN, which 13 refuses, where there is none
abbrev pub field_value : Number → Float
field_value (Err NotANumber) = nan
field_value (Ok v) = v
field_value (Err TooLong) = nan

module _ (ns : List Number) where
  abbrev three : Bool
  three = eqb (length ns) 3

  abbrev lat : Number
  lat = get_or ns 0 (Err NotANumber)

  abbrev lon : Number
  lon = get_or ns 1 (Err NotANumber)

  abbrev alt : Number
  alt = get_or ns 2 (Err NotANumber)

  -- three that Rust would all parse, and one of them too long
  abbrev pub one_too_long : Bool
  one_too_long = three && ((parsed lat && (parsed lon && parsed alt)) && (too_long lat || (too_long lon || too_long alt)))

  -- not three, or not inside the limits
  abbrev pub no_place : Bool
  no_place = not three || off_limits (field_value lat) (field_value lon) (field_value alt)

  abbrev pub checks : List Check
  checks = (NumberSize when one_too_long) ∷ (PositionRange when no_place) ∷ []

  -- the place that they give
  abbrev pub position_said : Vec3
  position_said = earth_fixed (field_value lat) (field_value lon) (field_value alt)

  unfoldable pub from_numbers : Result Vec3 Refusal
  from_numbers = answer (first_of checks) position_said

-- the bytes' own checks, then those
unfoldable pub line_refusal : List ℕ → Option Refusal
line_refusal l = first_of ((NonAscii when not (ascii l)) ∷ (LongLine when ltb 256 (line_size l)) ∷ checks (field_numbers l))

unfoldable pub read_position_of : List ℕ → Result Vec3 Refusal
read_position_of l = answer (line_refusal l) (position_said (field_numbers l))

-- The two lines by the columns of the NORAD two-line format, which counts them from 1.
use Rattle.std.specs.Prelude.{ℕ, ◌+◌, ◌-◌, ◌%◌, ◌&&◌, cond, List, [], ◌∷◌, ◌++◌, leb, eqb, Float}
use Rattle.text.specs.Text.{bytes, code}
use Rattle.decimal.specs.Fixed.{nearest_units, digit_at, fixed_text}
use Rattle.tle.specs.Elements.{printed_degrees, within_turn, mean_motion_of, line_epoch}
use Rattle.solution.specs.declared.SolvedOrbit.{SolvedOrbit}
use Rattle.tle.specs.declared.elements.Epoch.{Epoch}

-- line 1, columns 1 to 18: line number, catalogue number, class, designator
abbrev pub start1 : List ℕ
start1 = bytes "1 99999U 26999A   "

-- columns 33 to 68: both derivatives of the mean motion, drag, ephemeris type, element set number
abbrev pub rest1 : List ℕ
rest1 = bytes "  .00000000  00000-0  00000-0 0  999"

-- line 2, columns 1 to 8: line number, catalogue number
abbrev pub start2 : List ℕ
start2 = bytes "2 99999 "

-- columns 26 to 43: eccentricity and argument of perigee
abbrev pub middle2 : List ℕ
middle2 = bytes " 0000000   0.0000 "

-- columns 64 to 68: revolution number
abbrev pub end2 : List ℕ
end2 = bytes "00000"

-- Line 1 without its checksum: the year's last two digits in columns 19 and 20, the day of the year with 8 places in 21 to 32,
-- zeros on its left.
unfoldable pub body1 : ℕ → Float → List ℕ
body1 year day = start1 ++ digit_at year 1 ∷ digit_at year 0 ∷ fixed_text (code "0") 8 (nearest_units 8 day) 12 ++ rest1

-- Line 2 without its checksum: inclination in columns 9 to 16, node in 18 to 25, mean anomaly in 44 to 51, each with 4 places,
-- and mean motion with 8 in 53 to 63, blanks on their left.
unfoldable pub body2 : Float → Float → Float → Float → List ℕ
body2 i raan u n =
    start2 ++ fixed_text (code " ") 4 (nearest_units 4 i) 8 ++ code " " ∷ fixed_text (code " ") 4 (nearest_units 4 raan) 8 ++ middle2 ++ fixed_text (code " ") 4 (nearest_units 4 u) 8 ++ code " " ∷ fixed_text (code " ") 8 (nearest_units 8 n) 11 ++ end2

-- what a byte adds to the checksum: a digit its value, a minus one
abbrev pub weight_of : ℕ → ℕ
weight_of c = cond (leb (code "0") c && leb c (code "9")) (c - code "0") (cond (eqb c (code "-")) 1 0)

unfoldable pub weight_sum : List ℕ → ℕ
weight_sum [] = 0
weight_sum (c ∷ l) = weight_of c + weight_sum l

unfoldable pub checksum_of : List ℕ → ℕ
checksum_of l = weight_sum l % 10

-- a line with its checksum in column 69
unfoldable pub closed : List ℕ → List ℕ
closed l = l ++ ((checksum_of l + code "0") ∷ [])

unfoldable pub line1 : Epoch → List ℕ
line1 e = closed (body1 e.year e.day)

-- the mean anomaly of a circular orbit, counted from the node, is its argument of latitude
unfoldable pub line2 : SolvedOrbit → List ℕ
line2 o = closed (body2 (printed_degrees o.i) (within_turn (printed_degrees o.raan0)) (within_turn (printed_degrees o.u0)) (mean_motion_of o.a))

-- name and lines, each with a line feed: 141 bytes and the name's
unfoldable pub catalog_of : List ℕ → SolvedOrbit → List ℕ
catalog_of name o = name ++ code "\n" ∷ line1 (line_epoch o.epoch) ++ code "\n" ∷ line2 o ++ bytes "\n"

-- What the two lines carry: demand 3's claim about the lines, over their bytes alone. Columns are counted from 1, as the format does.
use Rattle.std.specs.Prelude.{◌≡◌, ◌⊎◌, Bool, true, false, ◌&&◌, ◌||◌, cond, List, [], ◌∷◌, ◌++◌, ℕ, zero, suc, ◌+◌, ◌-◌, ◌*◌, ◌%◌, ◌^◌, ◌≤◌, ◌<◌, T, leb, eqb, length, take, drop, Float}
use Rattle.std.specs.Float.Ieee.Positive.{num, den}
use Rattle.text.specs.Text.{bytes, code}
use Rattle.decimal.specs.Fixed.{within}
use Rattle.decimal.specs.Read.{is_digit}
use Rattle.tle.specs.Elements.{printed_degrees, mean_motion_of, line_epoch}
use Rattle.tle.specs.Lines.{start1, rest1, start2, middle2, end2, checksum_of}
use Rattle.solution.specs.declared.SolvedOrbit.{SolvedOrbit}

-- ---- what may stand in a column: one byte alone; a digit; and in the leading places of a number, where zeros may be left out from the left,
-- a digit or a blank in the first, in a later one a digit, or a blank behind a blank. The last whole place of a number is a digit. The other three
-- stand in lines that are read: a letter from A to Z; such a letter or a blank; a blank, + or -.
pub data Class : Type 0 where
  only : ℕ → Class
  digit : Class
  leading : Class
  later : Class
  letter : Class
  letter_or_blank : Class
  sign : Class

abbrev pub is_blank : ℕ → Bool
is_blank c = eqb c (code " ")

abbrev pub is_letter : ℕ → Bool
is_letter c = leb (code "A") c && leb c (code "Z")

abbrev pub is_plus_or_minus : ℕ → Bool
is_plus_or_minus c = eqb c (code "+") || eqb c (code "-")

-- c may stand in a column of the class, behind the byte b
abbrev pub admits : Class → ℕ → ℕ → Bool
admits (only x) b c = eqb c x
admits digit b c = is_digit c
admits leading b c = is_digit c || is_blank c
admits later b c = is_digit c || (is_blank b && is_blank c)
admits letter b c = is_letter c
admits letter_or_blank b c = is_letter c || is_blank c
admits sign b c = is_plus_or_minus c || is_blank c

-- behind the byte b each byte is of its column's class, and there are as many as columns
unfoldable pub matches_behind : ℕ → List Class → List ℕ → Bool
matches_behind b [] [] = true
matches_behind b [] (c ∷ l) = false
matches_behind b (k ∷ ks) [] = false
matches_behind b (k ∷ ks) (c ∷ l) = admits k b c && matches_behind c ks l

-- of a whole line, before whose first byte there is none
abbrev pub matches_line : List Class → List ℕ → Bool
matches_line ks l = matches_behind 0 ks l

abbrev pub exactly : List ℕ → List Class
exactly [] = []
exactly (c ∷ l) = only c ∷ exactly l

-- n columns of digits
abbrev pub digit_columns : ℕ → List Class
digit_columns zero = []
digit_columns (suc n) = digit ∷ digit_columns n

abbrev pub later_columns : ℕ → List Class
later_columns zero = []
later_columns (suc n) = later ∷ later_columns n

-- a whole number in n columns, two or more
abbrev pub whole_columns : ℕ → List Class
whole_columns n = leading ∷ later_columns (n - 2) ++ digit_columns 1

abbrev pub point : List Class
point = exactly (bytes ".")

abbrev pub blank_column : List Class
blank_column = exactly (bytes " ")

-- year, day of the year and checksum
unfoldable pub columns1 : List Class
columns1 = exactly start1 ++ digit_columns 2 ++ digit_columns 3 ++ point ++ digit_columns 8 ++ exactly rest1 ++ digit_columns 1

abbrev pub angle_columns : List Class
angle_columns = whole_columns 3 ++ point ++ digit_columns 4

abbrev pub motion_columns : List Class
motion_columns = whole_columns 2 ++ point ++ digit_columns 8

-- inclination, node, mean anomaly, mean motion and checksum
unfoldable pub columns2 : List Class
columns2 =
    exactly start2 ++ angle_columns ++ blank_column ++ angle_columns ++ exactly middle2 ++ angle_columns ++ blank_column ++ motion_columns ++ exactly end2 ++ digit_columns 1

-- ---- columns a to b
abbrev pub columns_of : ℕ → ℕ → List ℕ → List ℕ
columns_of a b l = take (b + 1 - a) (drop (a - 1) l)

-- the number in them, its point and blanks left out
unfoldable pub read_digits : ℕ → List ℕ → ℕ
read_digits n [] = n
read_digits n (c ∷ l) = cond (is_digit c) (read_digits (n * 10 + (c - code "0")) l) (read_digits n l)

unfoldable pub number_in : ℕ → ℕ → List ℕ → ℕ
number_in a b l = read_digits 0 (columns_of a b l)

-- N is within half a unit of v × 10 ^ p, for a v that is not below zero: v is num v / den v, and both sides are multiplied by 2 and den v
pub record HalfUnit (p : ℕ) (v : Float) (N : ℕ) : Type 0 where
  pub range : T (within v)
  pub above : num v * 10 ^ p * 2 ≤ N * den v * 2 + den v
  pub below : N * den v * 2 ≤ num v * 10 ^ p * 2 + den v

-- N is below 360 × 10 ^ p, a turn, and within half a unit of v × 10 ^ p around the circle
pub record AroundHalf (p : ℕ) (v : Float) (N : ℕ) : Type 0 where
  pub below_turn : N < 360 * 10 ^ p
  pub near : HalfUnit p v N ⊎ HalfUnit p v (N + 360 * 10 ^ p)

-- the checksum in column 69 is that of the 68 columns before it
abbrev pub Checked : List ℕ → Type 0
Checked l = number_in 69 69 l ≡ checksum_of (take 68 l)

pub record Printed (o : SolvedOrbit) (l1 l2 : List ℕ) : Type 0 where
  pub length_1 : length l1 ≡ 69
  pub length_2 : length l2 ≡ 69
  pub columns_1 : T (matches_line columns1 l1)
  pub columns_2 : T (matches_line columns2 l2)
  pub checksum_1 : Checked l1
  pub checksum_2 : Checked l2
  pub year : number_in 19 20 l1 ≡ (line_epoch o.epoch).year % 100
  pub day_of_year : HalfUnit 8 (line_epoch o.epoch).day (number_in 21 32 l1)
  pub inclination : HalfUnit 4 (printed_degrees o.i) (number_in 9 16 l2)
  pub node : AroundHalf 4 (printed_degrees o.raan0) (number_in 18 25 l2)
  pub eccentricity : number_in 27 33 l2 ≡ 0
  pub perigee : number_in 35 42 l2 ≡ 0
  pub mean_anomaly : AroundHalf 4 (printed_degrees o.u0) (number_in 44 51 l2)
  pub mean_motion : HalfUnit 8 (mean_motion_of o.a) (number_in 53 63 l2)
  pub revolution : number_in 64 68 l2 ≡ 0

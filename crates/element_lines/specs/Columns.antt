-- The columns of element lines that are read: document 01's example with what document 02 [2] lets stand in each. They are counted from 1.
use Rattle.std.specs.Prelude.{List, [], ◌∷◌, ◌++◌}
use Rattle.text.specs.Text.{bytes}
use Rattle.tle.specs.Printed.{Class, letter, letter_or_blank, sign, exactly, digit_columns, whole_columns, point, blank_column, angle_columns, motion_columns}

abbrev sign_column : List Class
sign_column = sign ∷ []

-- ---- line 1

-- 1 to 9: line number, catalogue number, class
abbrev object1 : List Class
object1 = exactly (bytes "1 ") ++ whole_columns 5 ++ (letter ∷ []) ++ blank_column

-- 10 to 18: designator, by year, launch and piece
abbrev designator : List Class
designator = digit_columns 5 ++ (letter_or_blank ∷ letter_or_blank ∷ letter_or_blank ∷ []) ++ blank_column

-- 19 to 33: year in 19 and 20, day of the year in 21 to 32
abbrev epoch : List Class
epoch = digit_columns 2 ++ whole_columns 3 ++ point ++ digit_columns 8 ++ blank_column

-- 34 to 44: first derivative of the mean motion
abbrev derivative : List Class
derivative = sign_column ++ point ++ digit_columns 8 ++ blank_column

-- 45 to 53 and 54 to 62, second derivative and drag: five digits behind a point that is not written, and a power of ten
abbrev power_of_ten : List Class
power_of_ten = sign_column ++ digit_columns 5 ++ sign_column ++ digit_columns 1 ++ blank_column

-- 63 to 69: ephemeris type, set number in 65 to 68, checksum
abbrev end1 : List Class
end1 = digit_columns 1 ++ blank_column ++ whole_columns 4 ++ digit_columns 1

unfoldable pub readable1 : List Class
readable1 = object1 ++ designator ++ epoch ++ derivative ++ power_of_ten ++ power_of_ten ++ end1

-- ---- line 2

-- 1 to 8: line number, catalogue number
abbrev object2 : List Class
object2 = exactly (bytes "2 ") ++ whole_columns 5 ++ blank_column

-- 9 to 26: inclination in 9 to 16, node in 18 to 25
abbrev plane : List Class
plane = angle_columns ++ blank_column ++ angle_columns ++ blank_column

-- 27 to 34: eccentricity behind a point that is not written
abbrev eccentricity : List Class
eccentricity = digit_columns 7 ++ blank_column

-- 35 to 52: argument of perigee in 35 to 42, mean anomaly in 44 to 51
abbrev along : List Class
along = angle_columns ++ blank_column ++ angle_columns ++ blank_column

-- 53 to 69: mean motion in 53 to 63, revolution number in 64 to 68, checksum
abbrev end2 : List Class
end2 = motion_columns ++ whole_columns 5 ++ digit_columns 1

unfoldable pub readable2 : List Class
readable2 = object2 ++ plane ++ eccentricity ++ along ++ end2

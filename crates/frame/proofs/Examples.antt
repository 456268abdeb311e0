-- Worked examples, by computation. Assumes nothing.
use mathlib.Core.Path.{◌≡◌, refl}
use lib.Ieee.{of_int, add, sub, mul, div, round}
use Rattle.float.specs.Constant.{decimal}
use Rattle.float.specs.Ops.{floor_of}
use Rattle.frame.specs.Julian.{jd_of, julian_of, day_fraction}

-- 2000-01-01T12:00:00Z is JD 2451545.0
jd_2000 : jd_of (record { year = 2000; month = 1; day = 1 }) (day_fraction 43200 0) ≡ decimal 2451545 0
unfolding jd_of julian_of day_fraction floor_of of_int round add sub mul div
jd_2000 = refl

-- Meeus's list: 1987 June 19.5 is JD 2446966.0, 1988 January 27.0 is JD 2447187.5
jd_1987 : jd_of (record { year = 1987; month = 6; day = 19 }) (day_fraction 43200 0) ≡ decimal 2446966 0
unfolding jd_of julian_of day_fraction floor_of of_int round add sub mul div
jd_1987 = refl

jd_1988 : jd_of (record { year = 1988; month = 1; day = 27 }) (day_fraction 0 0) ≡ decimal 24471875 1
unfolding jd_of julian_of day_fraction floor_of of_int round add sub mul div
jd_1988 = refl

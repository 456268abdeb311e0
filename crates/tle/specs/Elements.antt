-- The numbers that the lines print, as the Rust has them at printing, but for 360 degrees: from the given orbit and epoch, one rounding per
-- operation, in the Rust's order.
use Rattle.std.specs.Prelude.{ℕ, ◌-◌, ◌/◌, ◌%◌, ◌≡◌, refl, cond, eqb, Float}
use Rattle.std.specs.Float.Ieee.{of_bits, round}
use Rattle.float.specs.Constant.{decimal}
use Rattle.float.specs.Ops.{◌⊕◌, ◌⊗◌, ◌⊘◌, bits, rem_euclid_of, degrees_of, of_nat}
use Rattle.float.specs.Trig.{full}
use Rattle.roots.specs.Root.{sqrt_of}
use Rattle.decimal.specs.Fixed.{nearest_units}
use Rattle.moment.specs.Origin.{per_day, march1956}
use Rattle.moment.specs.Time.{seconds_of}
use Rattle.moment.specs.Calendar.{date_of, ordinal_of}
use Rattle.moment.specs.declared.Moment.{Moment}
use Rattle.orbit.specs.Orbit.{mu}
use Rattle.tle.specs.declared.elements.Epoch.{Epoch}

-- ---- angles

unfoldable pub full_circle : Float
full_circle = decimal 360 0

pub full_circle_bits : bits 0x4076800000000000 ≡ full_circle
unfolding full_circle of_bits round
full_circle_bits = refl

-- an angle of so many radians, in degrees from 0 to 360
unfoldable pub printed_degrees : Float → Float
printed_degrees x = rem_euclid_of (degrees_of x) full_circle

-- a turn in units of 10^-4 degrees, an angle's last printed place
abbrev pub whole_turn : ℕ
whole_turn = 3600000

-- what is printed of a node or mean anomaly of so many degrees, by document 02 [3]: 0 in place of what would print 360.0000
unfoldable pub within_turn : Float → Float
within_turn v = cond (eqb (nearest_units 4 v) whole_turn) (bits 0) v

-- ---- revolutions a day

unfoldable pub seconds_per_day : Float
seconds_per_day = decimal 86400 0

pub seconds_per_day_bits : bits 0x40f5180000000000 ≡ seconds_per_day
unfolding seconds_per_day of_bits round
seconds_per_day_bits = refl

-- radians a second, of the radius a (Kepler's third law), × 86400 / 2π
unfoldable pub mean_motion_of : Float → Float
mean_motion_of a = sqrt_of (mu ⊘ (a ⊗ a ⊗ a)) ⊗ seconds_per_day ⊘ full

-- ---- year and day of the year

unfoldable pub seconds_per_hour : Float
seconds_per_hour = decimal 3600 0

pub seconds_per_hour_bits : bits 0x40ac200000000000 ≡ seconds_per_hour
unfolding seconds_per_hour of_bits round
seconds_per_hour_bits = refl

unfoldable pub seconds_per_minute : Float
seconds_per_minute = decimal 60 0

pub seconds_per_minute_bits : bits 0x404e000000000000 ≡ seconds_per_minute
unfolding seconds_per_minute of_bits round
seconds_per_minute_bits = refl

unfoldable pub nanos_per_second : Float
nanos_per_second = decimal 1000000000 0

pub nanos_per_second_bits : bits 0x41cdcd6500000000 ≡ nanos_per_second
unfolding nanos_per_second of_bits round
nanos_per_second_bits = refl

-- the part of a day after so many seconds and nanoseconds
unfoldable pub epoch_fraction : ℕ → ℕ → Float
epoch_fraction secs nanos =
    (of_nat (secs / 3600) ⊗ seconds_per_hour ⊕ of_nat (secs / 60 % 60) ⊗ seconds_per_minute ⊕ of_nat (secs % 60) ⊕ of_nat nanos ⊘ nanos_per_second)
    ⊘ seconds_per_day

-- of the moment secs − 2^44 seconds after 1970 and so many nanoseconds
unfoldable pub epoch_at : ℕ → ℕ → Epoch
epoch_at secs nanos =
    let s = secs - march1956 in
    let date = date_of (s / per_day) in
    record { year = date.year; day = of_nat (ordinal_of date) ⊕ epoch_fraction (s % per_day) nanos }

abbrev pub line_epoch : Moment → Epoch
line_epoch t = epoch_at (seconds_of t.seconds) t.nanos

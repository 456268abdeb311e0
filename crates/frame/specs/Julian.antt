-- The Julian date (Meeus, Astronomical Algorithms, chapter 7), in the Rust's order.
use Rattle.std.specs.Prelude.{ℕ, ◌-◌, ◌/◌, ◌%◌, cond, not, [], ◌∷◌, leb, Float, Result}
use Rattle.float.specs.Constant.{decimal}
use Rattle.float.specs.Ops.{◌⊕◌, ◌⊖◌, ◌⊗◌, ◌⊘◌, floor_of, of_nat}
use Rattle.refusal.specs.Refusals.{first_of, ◌when◌, answer}
use Rattle.refusal.specs.declared.Refusal.{Refusal}
use Rattle.refusal.specs.declared.Refusal.TheVariants.{MomentRange}
use Rattle.moment.specs.Origin.{per_day, march1956}
use Rattle.moment.specs.Time.{seconds_of}
use Rattle.moment.specs.Range.{taken}
use Rattle.moment.specs.Calendar.{date_of}
use Rattle.moment.specs.declared.Moment.{Moment}
use Rattle.moment.specs.declared.calendar.Date.{Date}

-- the part of a day after so many seconds and nanoseconds
unfoldable pub day_fraction : ℕ → ℕ → Float
day_fraction secs nanos =
    (of_nat (secs / 3600) ⊕ (of_nat (secs / 60 % 60) ⊕ (of_nat (secs % 60) ⊕ of_nat nanos ⊘ decimal 1000000000 0) ⊘ decimal 60 0) ⊘ decimal 60 0)
    ⊘ decimal 24 0

-- of a year, a month from 3 to 14, and a day with its part: formula 7.1
unfoldable pub julian_of : Float → Float → Float → Float
julian_of y m day =
    let a = floor_of (y ⊘ decimal 100 0) in
    let b = decimal 2 0 ⊖ a ⊕ floor_of (a ⊘ decimal 4 0) in
    floor_of (decimal 36525 2 ⊗ (y ⊕ decimal 4716 0)) ⊕ floor_of (decimal 306001 4 ⊗ (m ⊕ decimal 1 0))
    ⊕ day ⊕ b ⊖ decimal 15245 1

-- of a date: January and February are months 13 and 14 of the year before
unfoldable pub jd_of : Date → Float → Float
jd_of d part =
    cond (leb d.month 2) (julian_of (of_nat d.year ⊖ decimal 1 0) (of_nat d.month ⊕ decimal 12 0) (of_nat d.day ⊕ part))
    (julian_of (of_nat d.year) (of_nat d.month) (of_nat d.day ⊕ part))

-- of the moment secs − 2^44 seconds after 1970 and so many nanoseconds
unfoldable pub jd_at : ℕ → ℕ → Float
jd_at secs nanos = let s = secs - march1956 in jd_of (date_of (s / per_day)) (day_fraction (s % per_day) nanos)

unfoldable pub datetime_to_jd_of : Moment → Result Float Refusal
datetime_to_jd_of m = answer (first_of ((MomentRange when not (taken m)) ∷ [])) (jd_at (seconds_of m.seconds) m.nanos)

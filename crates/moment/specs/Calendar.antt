-- The Gregorian calendar (Inter gravissimas, 1582; ISO 8601 counts it back to the year 0000).
use Rattle.std.specs.Prelude.{◌≡◌, ℕ, zero, suc, ◌+◌, ◌-◌, ◌*◌, ◌%◌, ◌≤◌, Bool, true, false, cond, ◌==◌, nat_lt}
use Rattle.moment.specs.declared.calendar.Date.{Date}

-- every fourth year is a leap year, but no hundredth, but every four hundredth
unfoldable pub leap : ℕ → Bool
leap y = cond (y % 400 == 0) true (cond (y % 100 == 0) false (y % 4 == 0))

unfoldable pub year_length : ℕ → ℕ
year_length y = cond (leap y) 366 365

-- of a leap year or another: thirty days have April, June, September and November
unfoldable pub month_length : Bool → ℕ → ℕ
month_length l m = cond (m == 2) (cond l 29 28) (cond (m == 4) 30 (cond (m == 6) 30 (cond (m == 9) 30 (cond (m == 11) 30 31))))

-- ---- from day to day

unfoldable pub tomorrow_in : Bool → Date → Date
tomorrow_in l d =
    cond (nat_lt d.day (month_length l d.month)) (record { year = d.year; month = d.month; day = d.day + 1 })
    (cond (nat_lt d.month 12) (record { year = d.year; month = d.month + 1; day = 1 })
    (record { year = d.year + 1; month = 1; day = 1 }))

abbrev pub tomorrow : Date → Date
tomorrow d = tomorrow_in (leap d.year) d

-- the date of the n-th day after 1956-03-01
unfoldable pub date_of : ℕ → Date
date_of zero = record { year = 1956; month = 3; day = 1 }
date_of (suc n) = tomorrow (date_of n)

-- ---- from a date to its number

-- the days of the first n months of a year
unfoldable pub months_length : Bool → ℕ → ℕ
months_length l zero = 0
months_length l (suc n) = months_length l n + month_length l (suc n)

-- the days of the years before y, from the year 0000 on
unfoldable pub days_to_year : ℕ → ℕ
days_to_year zero = 0
days_to_year (suc y) = days_to_year y + year_length y

-- the day of the year, from 1 on
unfoldable pub ordinal_of : Date → ℕ
ordinal_of d = months_length (leap d.year) (d.month - 1) + d.day

-- the number of a day: 0000-01-01 is day 1. It is one more for the day after: proofs/Numbers.antt
unfoldable pub day_number : Date → ℕ
day_number d = days_to_year d.year + ordinal_of d

-- a day that the calendar has
pub record Dated (d : Date) : Type 0 where
  pub first_month : 1 ≤ d.month
  pub last_month : d.month ≤ 12
  pub first_day : 1 ≤ d.day
  pub last_day : d.day ≤ month_length (leap d.year) d.month

-- a length, with the bound that sums of lengths need
pub record Month (l : Bool) (m r : ℕ) : Type 0 where
  pub is : r ≡ month_length l m
  pub most : r ≤ 31

pub record Months (l : Bool) (n r : ℕ) : Type 0 where
  pub is : r ≡ months_length l n
  pub most : r ≤ 31 * n

pub record Years (y r : ℕ) : Type 0 where
  pub is : r ≡ days_to_year y
  pub most : r ≤ 366 * y

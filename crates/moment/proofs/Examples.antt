-- Worked examples, by computation. Assumes nothing.
use Rattle.std.proofs.Common.{◌≡◌, ◌+◌, ◌-◌, ◌*◌, true, false, pos, negsuc, refl}
use Rattle.moment.specs.Time.{seconds_of, units_between, over_of}
use Rattle.moment.specs.Range.{in_range}
use Rattle.moment.specs.Sample.{moment_at}
use Rattle.moment.specs.Calendar.{leap, year_length, month_length, months_length, days_to_year, date_of, tomorrow_in, ordinal_of, day_number}

-- −1,500 ns is −1 µs, −999 ns is 0; −1,000,000,001 ns is −1,000,000 µs and −1,000 ms
micros_1500 : units_between 1000 8500 10000 ≡ negsuc 0
unfolding units_between
micros_1500 = refl

micros_999 : units_between 1000 9001 10000 ≡ pos 0
unfolding units_between
micros_999 = refl

micros_second : units_between 1000 999999999 2000000000 ≡ negsuc 999999
unfolding units_between
micros_second = refl

millis_second : units_between 1000000 999999999 2000000000 ≡ negsuc 999
unfolding units_between
millis_second = refl

-- −1 ns is 23:59:59.999999999 of the day before 1970-01-01, −1,000,000,000 ns a whole second before
nanosecond_before : moment_at (negsuc 0) ≡ record { seconds = negsuc 0; nanos = 999999999 }
unfolding moment_at
nanosecond_before = refl

second_before : moment_at (negsuc 999999999) ≡ record { seconds = negsuc 0; nanos = 0 }
unfolding moment_at
second_before = refl

-- 1957-01-01T00:00:00Z and the nanosecond before; 2057-01-01T00:00:00Z and the nanosecond before; a second of 10^9 ns
since_1957 : in_range (negsuc 410227199) 0 ≡ true
unfolding in_range seconds_of
since_1957 = refl

before_1957 : in_range (negsuc 410227200) 999999999 ≡ false
unfolding in_range seconds_of
before_1957 = refl

before_2057 : in_range (pos 2745532799) 999999999 ≡ true
unfolding in_range seconds_of
before_2057 = refl

at_2057 : in_range (pos 2745532800) 0 ≡ false
unfolding in_range seconds_of
at_2057 = refl

long_second : in_range (pos 0) 1000000000 ≡ false
unfolding in_range seconds_of
long_second = refl

-- 8,000,000,000,000 s from 1970 is not over, a nanosecond more is
at_limit : over_of (seconds_of (pos 8000000000000) * 1000000000) ≡ false
unfolding over_of seconds_of
at_limit = refl

past_limit : over_of (seconds_of (pos 8000000000000) * 1000000000 + 1) ≡ true
unfolding over_of seconds_of
past_limit = refl

at_lower_limit : over_of (seconds_of (negsuc 7999999999999) * 1000000000) ≡ false
unfolding over_of seconds_of
at_lower_limit = refl

past_lower_limit : over_of (seconds_of (negsuc 7999999999999) * 1000000000 - 1) ≡ true
unfolding over_of seconds_of
past_lower_limit = refl

-- the calendar's days 305, 306 and 5,054 after 1956-03-01
last_1956 : date_of 305 ≡ record { year = 1956; month = 12; day = 31 }
unfolding date_of tomorrow_in leap month_length
last_1956 = refl

first_1957 : date_of 306 ≡ record { year = 1957; month = 1; day = 1 }
unfolding date_of tomorrow_in leap month_length
first_1957 = refl

first_1970 : date_of 5054 ≡ record { year = 1970; month = 1; day = 1 }
unfolding date_of tomorrow_in leap month_length
first_1970 = refl

-- 2026-06-12 is day 163
day_163 : ordinal_of (record { year = 2026; month = 6; day = 12 }) ≡ 163
unfolding ordinal_of leap months_length month_length
day_163 = refl

-- 1970-01-01 is day 719,529, with 0000-01-01 as day 1
day_1970 : day_number (record { year = 1970; month = 1; day = 1 }) ≡ 719529
unfolding day_number ordinal_of days_to_year year_length leap months_length month_length
day_1970 = refl

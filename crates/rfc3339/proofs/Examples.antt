-- Worked examples. Assumes nothing.
use mathlib.Core.Path.{◌≡◌, refl}
use Rattle.std.proofs.Common.{Some, None}
use Rattle.text.specs.Text.{bytes}
use Rattle.decimal.specs.Read.{digit_run, with_digits}
use Rattle.moment.specs.Calendar.{leap, year_length, month_length, months_length, days_to_year}
use Rattle.rfc3339.specs.Rfc3339.{stamp, place_fits, matches, valid_date, valid_time, nanos, numoffset, time_offset, time_secfrac, date_time, date_time_of}

-- 1970-01-01T00:00:00Z is day 719528 after 0000-01-01, and one more
epoch : date_time_of (bytes "1970-01-01T00:00:00Z") ≡ Some (stamp 62167305600 0)
unfolding digit_run with_digits leap year_length month_length months_length days_to_year place_fits matches valid_date valid_time nanos numoffset time_offset time_secfrac date_time date_time_of
epoch = refl

-- 2024-02-29t23:59:59.5-01:30 is 2024-03-01T01:29:59.5Z: 54 years of 19723 days, 60 days, after 1970
offset : date_time_of (bytes "2024-02-29t23:59:59.5-01:30") ≡ Some (stamp 63876562199 500000000)
unfolding digit_run with_digits leap year_length month_length months_length days_to_year place_fits matches valid_date valid_time nanos numoffset time_offset time_secfrac date_time date_time_of
offset = refl

-- 2023-02-29T00:00:00Z is no date_time_of
absent : date_time_of (bytes "2023-02-29T00:00:00Z") ≡ None
unfolding digit_run with_digits leap year_length month_length months_length days_to_year place_fits matches valid_date valid_time nanos numoffset time_offset time_secfrac date_time date_time_of
absent = refl

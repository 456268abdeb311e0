-- The numbers that moments are counted from and held against, one home for each. proofs/Origins.antt has the calendar's word for them.
use Rattle.std.specs.Prelude.{ℕ, ℤ, pos, negsuc}

-- nanoseconds of a second, seconds of a day
abbrev pub per_second : ℕ
per_second = 1000000000

abbrev pub per_day : ℕ
per_day = 86400

-- ---- seconds from 2^44 s before 1970, so that no moment of a call is below zero

-- 1970-01-01T00:00:00Z
abbrev pub start1970 : ℕ
start1970 = 17592186044416

-- 1956-03-01T00:00:00Z, from which the calendar counts days
abbrev pub march1956 : ℕ
march1956 = 17591749378816

-- 2096-03-01T00:00:00Z, up to which its days are counted by fours of years
abbrev pub march2096 : ℕ
march2096 = 17596167442816

-- refusal 4: from 1957-01-01T00:00:00Z up to, not including, 2057-01-01T00:00:00Z
abbrev pub start1957 : ℕ
start1957 = 17591775817216

abbrev pub start2057 : ℕ
start2057 = 17594931577216

-- refusal 23: 8,000,000,000,000 s before 1970, and after
abbrev pub earliest : ℕ
earliest = 9592186044416

abbrev pub latest : ℕ
latest = 25592186044416

-- ---- nanoseconds since 1970: refusal 4's ends

abbrev pub time1957 : ℤ
time1957 = negsuc 410227199999999999

abbrev pub time2057 : ℤ
time2057 = pos 2745532800000000000

-- ---- nanoseconds from 4,000,000,000 s before 1970, which 64 bits hold: 1970, refusal 4's ends, and the origin in seconds as above

abbrev pub count1970 : ℕ
count1970 = 4000000000000000000

abbrev pub count1957 : ℕ
count1957 = 3589772800000000000

abbrev pub count2057 : ℕ
count2057 = 6745532800000000000

abbrev pub counts_start : ℕ
counts_start = 17588186044416

-- ---- seconds from a day before the year 0000, as RFC 3339's reader counts them, so that no offset leads below zero: 1970-01-01T00:00:00Z
abbrev pub reader1970 : ℕ
reader1970 = 62167305600

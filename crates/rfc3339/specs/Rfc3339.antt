-- RFC 3339, section 5.6: date-time = full-date "T" full-time. Second 60 is not taken.
use Rattle.std.specs.Prelude.{ℕ, ◌+◌, ◌-◌, ◌*◌, ◌^◌, ◌≤◌, ◌<◌, ◌≡◌, Bool, true, false, ◌&&◌, cond, List, [], ◌∷◌, leb, ltb, eqb, length, get_or, drop, Option, None, Some}
use Rattle.text.specs.Text.{bytes, code}
use Rattle.decimal.specs.Read.{is_digit, digit_run, with_digits, lower}
use Rattle.moment.specs.Calendar.{leap, month_length, months_length, days_to_year}
use Rattle.rfc3339.specs.declared.Timestamp.{Timestamp}

abbrev pub stamp : ℕ → ℕ → Timestamp
stamp s n = record { seconds = s; nanos = n }

-- A byte where a pattern has p: any digit for a 0, else p itself, a letter in either case. p is in lower case.
unfoldable pub place_fits : ℕ → ℕ → Bool
place_fits p c = cond (eqb p (code "0")) (is_digit c) (eqb (lower c) p)

-- l starts as the pattern says
unfoldable pub matches : List ℕ → List ℕ → Bool
matches [] l = true
matches (p ∷ ps) [] = false
matches (p ∷ ps) (c ∷ l) = place_fits p c && matches ps l

-- a date and a time of day
abbrev pub layout : List ℕ
layout = bytes "0000-00-00t00:00:00"

-- hours and minutes of an offset
abbrev pub hour_minute : List ℕ
hour_minute = bytes "00:00"

-- the two digits at a place
abbrev pub two_digits : List ℕ → ℕ → ℕ
two_digits l i = (get_or l i 0 - code "0") * 10 + (get_or l (i + 1) 0 - code "0")

-- a day that the calendar has
unfoldable pub valid_date : ℕ → ℕ → ℕ → Bool
valid_date y m d = cond (eqb m 0) false (cond (ltb 12 m) false (cond (eqb d 0) false (leb d (month_length (leap y) m))))

-- a time that a day has
unfoldable pub valid_time : ℕ → ℕ → ℕ → Bool
valid_time h m s = cond (ltb 23 h) false (cond (ltb 59 m) false (leb s 59))

-- The first nine of the n digits at 20, as billionths: those past nine are dropped.
unfoldable pub nanos : List ℕ → ℕ → ℕ
nanos l n = cond (ltb n 9) (with_digits 0 n (drop 20 l) * 10 ^ (9 - n)) (with_digits 0 9 (drop 20 l))

-- Local time becomes UTC: an offset stands at z, of a sign, hours to 23 and minutes to 59. RFC 3339: time-numoffset.
unfoldable pub numoffset : List ℕ → ℕ → ℕ → ℕ → Option Timestamp
numoffset l z s n =
    let o = two_digits l (z + 1) * 3600 + two_digits l (z + 4) * 60 in
    cond (matches hour_minute (drop (z + 1) l))
    (cond (valid_time (two_digits l (z + 1)) (two_digits l (z + 4)) 0)
    (cond (eqb (get_or l z 0) (code "+")) (Some (stamp (s - o) n)) (cond (eqb (get_or l z 0) (code "-")) (Some (stamp (s + o) n)) None))
    None)
    None

-- At z stands Z or an offset, and nothing after.
unfoldable pub time_offset : List ℕ → ℕ → ℕ → ℕ → Option Timestamp
time_offset l z s n =
    cond (eqb (length l) (z + 1)) (cond (eqb (lower (get_or l z 0)) (code "z")) (Some (stamp s n)) None)
    (cond (eqb (length l) (z + 6)) (numoffset l z s n) None)

-- Behind the seconds a point and at least one digit may stand.
unfoldable pub time_secfrac : List ℕ → ℕ → Option Timestamp
time_secfrac l s =
    let n = digit_run (drop 20 l) in
    cond (eqb (get_or l 19 0) (code ".")) (cond (eqb n 0) None (time_offset l (20 + n) s (nanos l n))) (time_offset l 19 s 0)

-- Seconds of local time, from a day before the year 0000: with that day no offset leads below 0.
abbrev pub seconds : (year month day hour minute second : ℕ) → ℕ
seconds y m d h mi s = (days_to_year y + months_length (leap y) (m - 1) + d) * 86400 + h * 3600 + mi * 60 + s

-- the year, month, day, hour, minute and second of l
unfoldable pub date_time : (l : List ℕ) (year month day hour minute second : ℕ) → Option Timestamp
date_time l y m d h mi s = cond (valid_date y m d) (cond (valid_time h mi s) (time_secfrac l (seconds y m d h mi s)) None) None

unfoldable pub date_time_of : List ℕ → Option Timestamp
date_time_of l =
    cond (matches layout l)
    (date_time l (two_digits l 0 * 100 + two_digits l 2) (two_digits l 5) (two_digits l 8) (two_digits l 11) (two_digits l 14) (two_digits l 17))
    None

pub record Digit (c r : ℕ) : Type 0 where
  pub is : r ≡ c - code "0"
  pub most : r < 208

pub record Two (l : List ℕ) (i r : ℕ) : Type 0 where
  pub is : r ≡ two_digits l i
  pub most : r < 2288

-- n digits stand at 20
pub record Fraction (l : List ℕ) (n : ℕ) : Type 0 where
  pub digits : n ≡ digit_run (drop 20 l)
  pub inside : 20 + n ≤ length l

pub record Nanos (l : List ℕ) (n r : ℕ) : Type 0 where
  pub is : r ≡ nanos l n
  pub most : r < 1000000000

-- room for an offset on both sides
pub record OffsetRoom (s : ℕ) : Type 0 where
  pub low : 86400 ≤ s
  pub high : s < 1000000000000000

pub record Clock (y m d h mi s : ℕ) : Type 0 where
  pub year : y < 1000000
  pub month : m ≤ 12
  pub first : 1 ≤ m
  pub begin : 1 ≤ d
  pub day : d ≤ 31
  pub hour : h ≤ 23
  pub minute : mi ≤ 59
  pub second : s ≤ 59

pub record Seconds (y m d h mi s r : ℕ) : Type 0 where
  pub is : r ≡ seconds y m d h mi s
  pub room : OffsetRoom r

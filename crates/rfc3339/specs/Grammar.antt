-- A date and time by the grammar of RFC 3339, section 5.6:
--     date-time      = full-date "T" full-time          full-time      = partial-time time-offset
--     full-date      = date-fullyear "-" date-month "-" date-mday
--     partial-time   = time-hour ":" time-minute ":" time-second [time-secfrac]
--     time-secfrac   = "." 1*DIGIT
--     time-offset    = "Z" / time-numoffset             time-numoffset = ("+" / "-") time-hour ":" time-minute
-- date-fullyear is 4DIGIT, the other numbers are 2DIGIT, in the ranges of a calendar and a clock; "T" and "Z" may be in lower case. Document 01 leaves
-- out second 60 and drops digits of a fraction past nine. proofs/Grammar.antt shows that `date_time_of` takes these texts and no others.
use Rattle.std.specs.Prelude.{ℕ, ◌+◌, ◌-◌, ◌*◌, ◌^◌, ◌<◌, ◌≡◌, true, List, [], ◌∷◌, ◌++◌, length, take}
use Rattle.text.specs.Text.{code}
use Rattle.decimal.specs.Read.{is_digit, lower}
use Rattle.decimal.specs.Grammar.{Digits, numeral_value}
use Rattle.rfc3339.specs.Rfc3339.{stamp, valid_date, valid_time, seconds}
use Rattle.rfc3339.specs.declared.Timestamp.{Timestamp}

-- 2DIGIT, and its number
pub data Pair : List ℕ → ℕ → Type 0 where
  pair : (a b : ℕ) → is_digit a ≡ true → is_digit b ≡ true → Pair (a ∷ b ∷ []) ((a - code "0") * 10 + (b - code "0"))

-- full-date: year, month and day of the calendar; 4DIGIT are two pairs
pub data FullDate : List ℕ → ℕ → ℕ → ℕ → Type 0 where
  full_date : {c y m d : List ℕ} {cn yn mn dn : ℕ} → Pair c cn → Pair y yn → Pair m mn → Pair d dn → valid_date (cn * 100 + yn) mn dn ≡ true
      → FullDate (c ++ (y ++ code "-" ∷ (m ++ code "-" ∷ d))) (cn * 100 + yn) mn dn

-- [time-secfrac], as billionths
pub data Secfrac : List ℕ → ℕ → Type 0 where
  no_secfrac : Secfrac [] 0
  secfrac : (ds : List ℕ) → Digits ds → 0 < length ds → Secfrac (code "." ∷ ds) (numeral_value 0 (take 9 ds) * 10 ^ (9 - length ds))

-- partial-time: hour, minute, second, billionths
pub data PartialTime : List ℕ → ℕ → ℕ → ℕ → ℕ → Type 0 where
  partial_time : {h m s f : List ℕ} {hn mn sn n : ℕ} → Pair h hn → Pair m mn → Pair s sn → valid_time hn mn sn ≡ true → Secfrac f n
      → PartialTime (h ++ code ":" ∷ (m ++ code ":" ∷ (s ++ f))) hn mn sn n

-- time-offset: the seconds that local time is ahead of UTC, and those that it is behind
pub data Offset : List ℕ → ℕ → ℕ → Type 0 where
  zulu : (z : ℕ) → lower z ≡ code "z" → Offset (z ∷ []) 0 0
  ahead : {h m : List ℕ} {hn mn : ℕ} → Pair h hn → Pair m mn → valid_time hn mn 0 ≡ true → Offset (code "+" ∷ (h ++ code ":" ∷ m)) (hn * 3600 + mn * 60) 0
  behind : {h m : List ℕ} {hn mn : ℕ} → Pair h hn → Pair m mn → valid_time hn mn 0 ≡ true → Offset (code "-" ∷ (h ++ code ":" ∷ m)) 0 (hn * 3600 + mn * 60)

-- date-time, and its moment in UTC
pub data DateTime : List ℕ → Timestamp → Type 0 where
  date_and_time : {d p o : List ℕ} {y mo da h mi s n a b : ℕ} (t : ℕ) → FullDate d y mo da → lower t ≡ code "t" → PartialTime p h mi s n → Offset o a b
      → DateTime (d ++ t ∷ (p ++ o)) (stamp (seconds y mo da h mi s + b - a) n)

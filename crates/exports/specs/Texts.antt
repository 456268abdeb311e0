-- What the readers of a number and of a time give: the number of a refusal or whether the text was taken, and the values.
use Rattle.std.specs.Prelude.{ℕ, Bool, true, false, Float, Option, Some, None, Ok, Err}
use Rattle.refusal.specs.Numbers as refusal
use Rattle.decimal.specs.Read.{Number}
use Rattle.decimal.specs.declared.read.NumberError.TheVariants.{NotANumber, TooLong}
use Rattle.rfc3339.specs.declared.Timestamp.{Timestamp}

unfoldable pub number_refusal : Number → ℕ
number_refusal (Err NotANumber) = 0
number_refusal (Ok x) = 0
number_refusal (Err TooLong) = refusal.number_size

-- 1 for a number, 0 for what is none; refused: what was there
unfoldable pub number_taken : ℕ → Number → ℕ
number_taken old (Err NotANumber) = 0
number_taken old (Ok x) = 1
number_taken old (Err TooLong) = old

-- what was there, unless it is a number
unfoldable pub number_value : Float → Number → Float
number_value old (Err NotANumber) = old
number_value old (Ok x) = x
number_value old (Err TooLong) = old

unfoldable pub is_time : Option Timestamp → Bool
is_time None = false
is_time (Some t) = true

-- what was there, unless it is a time
unfoldable pub time_seconds : ℕ → Option Timestamp → ℕ
time_seconds old None = old
time_seconds old (Some t) = t.seconds

unfoldable pub time_nanos : ℕ → Option Timestamp → ℕ
time_nanos old None = old
time_nanos old (Some t) = t.nanos

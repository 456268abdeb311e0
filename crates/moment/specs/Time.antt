-- Moments, by the nanoseconds that they count from 2^44 s before 1970, and the time between two.
use Rattle.std.specs.Prelude.{◌≡◌, ℕ, suc, ◌+◌, ◌-◌, ◌*◌, ◌/◌, ◌<◌, ◌≤◌, Bool, cond, ◌||◌, ℤ, pos, negsuc, neg_ℤ, nat_le, nat_lt, refl, Float}
use Rattle.std.specs.Float.{binary64}
use Rattle.std.specs.Float.Ieee.{of_int, of_bits, round}
use Rattle.float.specs.Constant.{decimal}
use Rattle.float.specs.Ops.{◌⊘◌, bits}
use Rattle.moment.specs.Origin.{per_second, start1970, earliest, latest}

-- seconds since 1970 as a count from 2^44 s before; 0 if earlier
unfoldable pub seconds_of : ℤ → ℕ
seconds_of (pos n) = start1970 + n
seconds_of (negsuc n) = start1970 - suc n

abbrev pub nanos_of : ℕ → ℕ → ℕ
nanos_of secs nanos = secs * per_second + nanos

-- over 8,000,000,000,000 s from 1970: refusal 23
unfoldable pub over_of : ℕ → Bool
over_of t = nat_lt t (earliest * per_second) || nat_lt (latest * per_second) t

-- what is not over, with its nanoseconds below a second
pub record Sound (secs nanos : ℕ) : Type 0 where
  pub low : earliest ≤ secs
  pub high : secs ≤ latest
  pub part : nanos < per_second

-- seconds and nanoseconds that count n nanoseconds
pub record Normal (secs nanos n : ℕ) : Type 0 where
  pub counts : nanos_of secs nanos ≡ n
  pub part : nanos < per_second

-- t moved by z units of so many nanoseconds
unfoldable pub moved_of : ℕ → ℕ → ℤ → ℕ
moved_of t unit (pos n) = t + n * unit
moved_of t unit (negsuc n) = t - suc n * unit

-- whole units of so many nanoseconds from e to t, cut toward zero
unfoldable pub units_between : ℕ → ℕ → ℕ → ℤ
units_between unit t e = cond (nat_le e t) (pos ((t - e) / unit)) (neg_ℤ (pos ((e - t) / unit)))

-- microseconds and milliseconds of a second
unfoldable pub million : Float
million = decimal 1000000 0

pub million_bits : bits 0x412e848000000000 ≡ million
unfolding million of_bits round
million_bits = refl

unfoldable pub thousand : Float
thousand = decimal 1000 0

pub thousand_bits : bits 0x408f400000000000 ≡ thousand
unfolding thousand of_bits round
thousand_bits = refl

-- seconds from e to t: whole microseconds over a million, and whole milliseconds over a thousand
unfoldable pub tau_of : ℕ → ℕ → Float
unfolding units_between
tau_of t e = of_int binary64 (units_between 1000 t e) ⊘ million

unfoldable pub tau_millis_of : ℕ → ℕ → Float
unfolding units_between
tau_millis_of t e = of_int binary64 (units_between 1000000 t e) ⊘ thousand

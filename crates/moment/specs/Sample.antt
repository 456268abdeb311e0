-- Sample times: nanoseconds since 1970-01-01T00:00:00Z, a signed number.
use Rattle.std.specs.Prelude.{◌≡◌, ℕ, suc, ◌+◌, ◌-◌, ◌*◌, ◌/◌, ◌%◌, ◌<◌, Bool, true, not, ◌&&◌, List, [], ◌∷◌, length, ℤ, pos, negsuc, int_lt, slice_index_or}
use Rattle.std.proofs.Math.IntN.{sub_ℕ}
use Rattle.moment.specs.Origin.{per_second, start1970, time1957, time2057}
use Rattle.moment.specs.Time.{nanos_of}
use Rattle.moment.specs.declared.Instant.{Instant}
use Rattle.moment.specs.declared.Moment.{Moment}

-- refusal 4: from 1957-01-01T00:00:00Z up to, not including, 2057-01-01T00:00:00Z
unfoldable pub time_in_range : ℤ → Bool
time_in_range t = not (int_lt t time1957) && int_lt t time2057

-- of every sample
unfoldable pub times_in_range : List ℤ → Bool
times_in_range [] = true
times_in_range (t ∷ ts) = time_in_range t && times_in_range ts

pub record Timed (times : List ℤ) : Type 0 where
  pub each : (k : ℕ) → k < length times → time_in_range (slice_index_or times k (pos 0)) ≡ true

-- z + k, for z no less than −k
unfoldable pub shifted : ℕ → ℤ → ℕ
shifted k (pos n) = n + k
shifted k (negsuc n) = k - suc n

-- nanoseconds counted from 2^44 s before 1970
abbrev pub sample_count : ℤ → ℕ
sample_count t = shifted (start1970 * per_second) t

unfoldable pub instant_at : ℤ → Instant
instant_at t = record { secs = sample_count t / per_second; nanos = sample_count t % per_second }

-- whole seconds since 1970, downward, and the nanoseconds after them
unfoldable pub moment_at : ℤ → Moment
moment_at (pos n) = record { seconds = pos (n / per_second); nanos = n % per_second }
moment_at (negsuc n) = record { seconds = negsuc (n / per_second); nanos = 999999999 - n % per_second }

-- nanoseconds since 1970
unfoldable pub since_of : Instant → ℤ
since_of m = sub_ℕ (nanos_of m.secs m.nanos) (start1970 * per_second)

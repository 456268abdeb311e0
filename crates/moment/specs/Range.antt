-- Refusal 4: a moment given to a call.
use Rattle.std.specs.Prelude.{◌≡◌, ℕ, ◌+◌, ◌<◌, ◌≤◌, Bool, not, ◌&&◌, [], ◌∷◌, ℤ, nat_le, nat_lt, Result}
use Rattle.refusal.specs.Refusals.{first_of, ◌when◌, answer}
use Rattle.refusal.specs.declared.Refusal.{Refusal}
use Rattle.refusal.specs.declared.Refusal.TheVariants.{MomentRange}
use Rattle.moment.specs.Origin.{per_second, start1957, start2057}
use Rattle.moment.specs.Time.{seconds_of, nanos_of}
use Rattle.moment.specs.declared.Moment.{Moment}
use Rattle.moment.specs.declared.Instant.{Instant}

-- from 1957-01-01T00:00:00Z up to, not including, 2057-01-01T00:00:00Z, with at most 999,999,999 nanoseconds
unfoldable pub in_range : ℤ → ℕ → Bool
in_range s n = nat_le start1957 (seconds_of s) && (nat_lt (seconds_of s) start2057 && nat_lt n per_second)

-- a moment as a call gets it
unfoldable pub given_of : ℤ → ℕ → Result Instant Refusal
unfolding in_range
given_of s n = answer (first_of ((MomentRange when not (in_range s n)) ∷ [])) (record { secs = seconds_of s; nanos = n })

abbrev pub Gives : Moment → Result Instant Refusal → Type 0
Gives m r = r ≡ given_of m.seconds m.nanos

-- of a moment: whether a call takes it, its seconds counted from 2^44 s before 1970, and its nanoseconds so
abbrev pub taken : Moment → Bool
taken m = in_range m.seconds m.nanos

abbrev pub moment_count : Moment → ℕ
moment_count m = nanos_of (seconds_of m.seconds) m.nanos

-- within so many seconds of 1957 to 2057; a moment that is taken is within 0
pub record Within (slack secs nanos : ℕ) : Type 0 where
  pub low : start1957 ≤ secs + slack
  pub high : secs < start2057 + slack
  pub part : nanos < per_second

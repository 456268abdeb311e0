-- What the inner functions ask, and a table of the Earth's rotations. The rotation
-- at a moment does not depend on the orbit, so that a search works it out once and reads it for each of its sums. A table has
-- two numbers an entry, sine and cosine; for each pass 1,245 entries, the seconds from 622 before its observed closest moment
-- to 622 after, then one for each sample. With none each rotation is worked out where it is used.
use Rattle.std.specs.Prelude.{◌≡◌, List, ℕ, ◌+◌, ◌-◌, ◌*◌, ◌≤◌, ◌<◌, ℤ, pos, length, get_or, set, Float, Option, None, Some}
use Rattle.std.specs.Borrow.{Bor}
use Rattle.std.specs.Float.{nan}
use Rattle.moment.specs.Origin.{per_second, start1957, start2057}
use Rattle.moment.specs.declared.Instant.{Instant}
use Rattle.moment.specs.Time.{tau_millis_of}
use Rattle.moment.specs.Sample.{instant_at}
use Rattle.pass_set.specs.PassSet.{pass_of}
use Rattle.frame.specs.Rotation.{turn_at}
use Rattle.approach.specs.declared.Stage.{Stage}
use Rattle.approach.specs.Pca.{obs_pca_time}

-- the closest search reaches 600 + 20 + 2 seconds at most to both sides of an observed moment; a pass has an entry for each of these seconds
abbrev pub reach : ℕ
reach = 622

abbrev pub entries : ℕ
entries = 1245

-- of a pass's dt: it is the difference of two moments, counted in nanoseconds, less than 4·10^9 s apart
pub record Shift (dt : Float) : Type 0 where
  pub to : ℕ
  pub from : ℕ
  pub is : dt ≡ tau_millis_of to from
  pub after : to < from + 4000000000000000000
  pub before : from < to + 4000000000000000000

-- ---- a search's stage around secs: its moments reach half seconds to both sides and stay in the window, twice the reach from base on

pub record Around (base : ℕ) (w : Stage) (secs nanos : ℕ) : Type 0 where
  pub low : base + w.half ≤ secs
  pub high : secs + w.half ≤ base + 2 * reach
  pub spans : w.step * w.n ≤ 2 * w.half + w.step
  pub early : start1957 ≤ base + reach
  pub late : base + reach < start2057
  pub part : nanos < per_second

-- secs is at most half seconds from mid
pub record Beside (half mid secs : ℕ) : Type 0 where
  pub low : mid ≤ secs + half
  pub high : secs ≤ mid + half

-- ---- the table

-- entry j is the rotation at a moment
pub record Entry (table : List Float) (j secs nanos : ℕ) : Type 0 where
  pub room : 2 * j + 1 < length table
  pub sine : get_or table (2 * j) nan ≡ (turn_at secs nanos).sin
  pub cosine : get_or table (2 * j + 1) nan ≡ (turn_at secs nanos).cos

-- a table's numbers, if there is one
abbrev pub listed : Option (Bor (List Float)) → Option (List Float)
listed None = None
listed (Some turns) = Some turns.now

-- so, if there is a table
pub record Held (table : Option (List Float)) (j secs nanos : ℕ) : Type 0 where
  pub entry : (turns : List Float) → table ≡ Some turns → Entry turns j secs nanos

-- the window: 1,245 entries from at on are for the seconds from base on
pub record Window (table : Option (List Float)) (at base nanos : ℕ) : Type 0 where
  pub small : at ≤ 100000
  pub each : (j : ℕ) → j < entries → Held table (at + j) (base + j) nanos

-- where a moment's window begins
abbrev pub window : Instant → ℕ
window t = t.secs - reach

-- one pass's window, around its observed closest moment by a centre
pub record Windowed (table : Option (List Float)) (at : ℕ) (center : Float) (times : List ℤ) (freqs : List Float) : Type 0 where
  pub seen : 0 < length freqs → Window table at (window (obs_pca_time times freqs center)) (obs_pca_time times freqs center).nanos

-- the sample times' entries, from at on
pub record Sampled (table : Option (List Float)) (at : ℕ) (times : List ℤ) : Type 0 where
  pub small : at ≤ 100000
  pub each : (j : ℕ) → j < length times → Held table (at + j) (instant_at (get_or times j (pos 0))).secs (instant_at (get_or times j (pos 0))).nanos

-- a pass set's table; first is the centre by which the observed moments are chosen
pub record Tabled (table : Option (List Float)) (first : Float) (counts : List ℕ) (times : List ℤ) (freqs : List Float) : Type 0 where
  pub windows : (p : ℕ) → p < length counts → Windowed table (entries * p) first (pass_of counts p times) (pass_of counts p freqs)
  pub samples : Sampled table (entries * length counts) times

-- ---- filling it

unfoldable pub put_turn : List Float → ℕ → ℕ → ℕ → List Float
put_turn table j secs nanos = set (set table (2 * j) (turn_at secs nanos).sin) (2 * j + 1) (turn_at secs nanos).cos

-- what is kept: the length, and all before entry at
pub record Kept (at : ℕ) (old new : List Float) : Type 0 where
  pub same : length new ≡ length old
  pub below : (m : ℕ) → m < 2 * at → get_or new m nan ≡ get_or old m nan

-- n entries from at on are for the moments t 0, t 1, ..
pub record Entered (t : ℕ → Instant) (at n : ℕ) (old new : List Float) : Type 0 where
  pub kept : Kept at old new
  pub each : (j : ℕ) → j < n → Entry new (at + j) (t j).secs (t j).nanos

-- the window of t, second by second, and the samples' moments
abbrev pub window_moment : Instant → ℕ → Instant
window_moment t j = record { secs = window t + j; nanos = t.nanos }

abbrev pub moments : List ℤ → ℕ → Instant
moments times k = instant_at (get_or times k (pos 0))

-- one pass's window is filled
pub record PassWritten (at : ℕ) (center : Float) (times : List ℤ) (freqs : List Float) (old new : List Float) : Type 0 where
  pub kept : Kept at old new
  pub windowed : Windowed (Some new) at center times freqs

-- a pass set's table is filled
pub record SetWritten (counts : List ℕ) (times : List ℤ) (freqs centers old new : List Float) : Type 0 where
  pub same : length new ≡ length old
  pub tabled : Tabled (Some new) (get_or centers 0 nan) counts times freqs

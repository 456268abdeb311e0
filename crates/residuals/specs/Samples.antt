-- A fit's samples, and what its predictions share.
use Rattle.std.specs.Prelude.{◌≡◌, List, [], ◌∷◌, ℕ, ◌+◌, ◌*◌, ◌/◌, ◌%◌, ◌≤◌, ◌<◌, ℤ, pos, length, get_or, Float}
use Rattle.std.specs.Float.{nan}
use Rattle.float.specs.declared.trig.SinCos.{SinCos}
use Rattle.moment.specs.Origin.{per_second, count1970, count1957, count2057, counts_start}
use Rattle.moment.specs.Time.{nanos_of, Sound}
use Rattle.moment.specs.Sample.{shifted, instant_at}
use Rattle.moment.specs.declared.Instant.{Instant}
use Rattle.frame.specs.Rotation.{turn_at}
use Rattle.frame.specs.declared.Vec3.{Vec3}
use Rattle.orbit.specs.declared.doppler.Station.{Station}
use Rattle.pass_set.specs.PassSet.{total}

-- How many samples each pass has, and of each sample its moment and its frequency. Passes without samples are dropped before.
-- A moment is counted in nanoseconds from 4·10^9 s before 1970 on.
pub record Passes : Type 0 where
  pub counts : List ℕ
  pub times : List ℕ
  pub freqs : List Float

-- a sample time's count, of a time in range; and of all
abbrev pub count_at : ℤ → ℕ
count_at t = shifted count1970 t

unfoldable pub counts_at : List ℤ → List ℕ
counts_at [] = []
counts_at (t ∷ ts) = count_at t ∷ counts_at ts

abbrev pub passes_of : List ℕ → List ℕ → List Float → Passes
passes_of counts times freqs = record { counts = counts; times = times; freqs = freqs }

-- the station of samples: the first one's moment is the epoch; where there is none, 1970, which nothing reads
abbrev pub first_epoch : List ℤ → Instant
first_epoch times = instant_at (get_or times 0 (pos 0))

abbrev pub station_of : List ℤ → Float → Vec3 → Station
station_of times center rec = record { epoch = first_epoch times; center_freq = center; rec_ecef = rec }

-- such a moment by seconds from 2^44 s before 1970 on, and by nanoseconds from there
unfoldable pub instant_of : ℕ → Instant
instant_of n = record { secs = n / per_second + counts_start; nanos = n % per_second }

unfoldable pub nanos_at : ℕ → ℕ
nanos_at n = nanos_of (instant_of n).secs (instant_of n).nanos

-- the Earth's rotation then
unfoldable pub rotation_at : ℕ → SinCos
rotation_at n = turn_at (instant_of n).secs (instant_of n).nanos

-- every moment is from 1957-01-01 on and before 2057-01-01: no refusal 4
pub record DatedTimes (times : List ℕ) : Type 0 where
  pub each : (k : ℕ) → k < length times → (count1957 ≤ get_or times k 0) × (get_or times k 0 < count2057)

-- the k-th sine and cosine of a list of both
abbrev pub turn_in : List Float → ℕ → SinCos
turn_in turns k = record { sin = get_or turns (2 * k) nan; cos = get_or turns (2 * k + 1) nan }

-- every sample's rotation is in the list
pub record Rotations (times : List ℕ) (turns : List Float) : Type 0 where
  pub room : 2 * length times ≤ length turns
  pub each : (k : ℕ) → k < length times → turn_in turns k ≡ rotation_at (get_or times k 0)

-- what the functions on a fit's samples ask: at most 16 passes and 4,096 samples, and the rotations of these
pub record Samples (g : Station) (d : Passes) (turns : List Float) : Type 0 where
  pub epoch : Sound g.epoch.secs g.epoch.nanos
  pub few : length d.counts ≤ 16
  pub small : length d.times ≤ 4096
  pub whole : total d.counts ≡ length d.times
  pub pairs : length d.freqs ≡ length d.times
  pub turned : Rotations d.times turns

-- Pass files gathered into one pass set, a pass for each file.
use Rattle.std.specs.Prelude.{◌≡◌, ℕ, ◌+◌, ◌-◌, ◌<◌, ◌≤◌, Bool, true, false, cond, not, ◌&&◌, ◌||◌, List, [], ◌∷◌, ◌++◌, map, length, take, ℤ, nat_le, nat_lt, Float, Result, Ok, Err, is_ok, Some, None}
use Rattle.std.specs.Prelude.{Option as Maybe, is_some as is_there}
use mathlib.Core.List.{flat_map}
use Rattle.std.proofs.Math.Option.{Option, none, some}
use Rattle.text.specs.Text.{bytes}
use Rattle.refusal.specs.declared.Refusal.{Refusal}
use Rattle.refusal.specs.declared.Refusal.TheVariants.{Sizes, ShortMemory}
use Rattle.refusal.specs.Refusals.{status_of}
use Rattle.pass_set.specs.PassSet.{total}
use Rattle.ordering.specs.Sort.{sort_on, pick}
use Rattle.ordering.specs.Order.{first_key}
use Rattle.passes.specs.Text.{lines}
use Rattle.passes.specs.File.{opening, scanned, times_of, freqs_of, name_of}
use Rattle.passes.specs.File as File
use Rattle.passes.specs.declared.file.PassFile.{PassFile}
use Rattle.command.specs.declared.gather.Name.{Name}
use Rattle.command.specs.declared.gather.Gathered.{Gathered}

-- ---- the pass set of a list of files

-- what a file says; one that is refused is in no set, and what is said here of it is what holds before a first line
abbrev pub accepted_or : PassFile → Result PassFile Refusal → PassFile
accepted_or p (Ok q) = q
accepted_or p (Err k) = p

abbrev pub said : List ℕ → PassFile
said file = accepted_or opening (scanned file)

-- what a file brings: a count, a centre frequency and samples
abbrev pub count_in : List ℕ → ℕ
count_in file = (said file).count

abbrev pub center_in : List ℕ → Float
center_in file = (said file).center_freq

abbrev pub times_in : List ℕ → List ℤ
times_in file = times_of (lines 0 file)

abbrev pub freqs_in : List ℕ → List Float
freqs_in file = freqs_of (lines 0 file)

abbrev pub has_name : List ℕ → Bool
has_name file = is_there (said file).name

abbrev pub name_in : List ℕ → List ℕ
name_in file = name_of file (said file)

-- where it belongs in the order of time: by its first sample
abbrev pub key_in : List ℕ → ℕ
key_in file = first_key (times_in file)

-- the first file in the order of time that has a name
unfoldable pub namer : List (List ℕ) → Option (List ℕ)
namer files = pick key_in has_name (sort_on key_in files)

abbrev pub unknown : List ℕ
unknown = bytes "UNKNOWN"

-- the name to print, and where its file belongs
abbrev pub name_from : Option (List ℕ) → List ℕ
name_from none = unknown
name_from (some file) = name_in file

abbrev pub key_from : Option (List ℕ) → Maybe ℕ
key_from none = None
key_from (some file) = Some (key_in file)

-- the arrays that are lent
pub record Arrays : Type 0 where
  pub counts : List ℕ
  pub times : List ℤ
  pub freqs : List Float
  pub centers : List Float
  pub name : List ℕ

abbrev pub arrays : List ℕ → List ℤ → List Float → List Float → List ℕ → Arrays
arrays counts times freqs centers name = record { counts = counts; times = times; freqs = freqs; centers = centers; name = name }

-- the first n elements are these
pub record First {A : Type 0} (n : ℕ) (all these : List A) : Type 0 where
  pub room : n ≤ length all
  pub is : take n all ≡ these

-- The first places hold the pass set of the files: counts and centres one for each, samples one file's after the other's, and the
-- name of the first file in time that has one, or UNKNOWN, as far as there is room.
pub record Holds (files : List (List ℕ)) (g : Gathered) (a : Arrays) : Type 0 where
  pub passes : g.passes ≡ length files
  pub counted : First g.passes a.counts (map count_in files)
  pub centred : First g.passes a.centers (map center_in files)
  pub timed : First g.samples a.times (flat_map times_in files)
  pub heard : First g.samples a.freqs (flat_map freqs_in files)
  pub sized : total (map count_in files) ≡ g.samples
  pub since : g.name.key ≡ key_from (namer files)
  pub named : First g.name.size a.name (take (length a.name) (name_from (namer files)))

-- ---- a file's pass behind p passes and s samples

-- p passes and s samples are there: no room for another pass, or more samples than room, in arrays of these lengths
unfoldable pub is_full : (p s counts times freqs centers : ℕ) → Bool
is_full p s counts times freqs centers = nat_le counts p || (nat_le centers p || (nat_lt times s || nat_lt freqs s))

-- a file's own refusal; that its samples find no room is 5 here
abbrev pub roomless : Refusal → Refusal
roomless ShortMemory = Sizes
roomless k = k

abbrev pub set_answer : Result PassFile Refusal → Result PassFile Refusal
set_answer (Ok p) = Ok p
set_answer (Err k) = Err (roomless k)

-- what a file says, where there are nt and nf places for its samples and maybe no room at all
unfoldable pub gather_answer : Bool → List ℕ → ℕ → ℕ → Result PassFile Refusal
gather_answer full file nt nf = cond full (Err Sizes) (set_answer (File.answer file nt nf))

-- an accepted file is appended to the p passes and s samples that stand in the arrays
pub record Appended (file : List ℕ) (r : PassFile) (p s : ℕ) (counts counts' : List ℕ) (times times' : List ℤ) (freqs freqs' centers centers' : List Float) : Type 0 where
  pub counted : take (p + 1) counts' ≡ take p counts ++ (r.count ∷ [])
  pub centred : take (p + 1) centers' ≡ take p centers ++ (r.center_freq ∷ [])
  pub timed : take (s + r.count) times' ≡ take s times ++ times_in file
  pub heard : take (s + r.count) freqs' ≡ take s freqs ++ freqs_in file
  pub counts_room : p < length counts
  pub centers_room : p < length centers
  pub times_room : s + r.count ≤ length times
  pub freqs_room : s + r.count ≤ length freqs

-- a refused one leaves them as they were
pub record SameArrays (counts counts' : List ℕ) (times times' : List ℤ) (freqs freqs' centers centers' : List Float) : Type 0 where
  pub same_counts_lem : counts' ≡ counts
  pub same_times : times' ≡ times
  pub same_freqs : freqs' ≡ freqs
  pub same_centers : centers' ≡ centers

pub record Adds (file : List ℕ) (p s : ℕ) (counts counts' : List ℕ) (times times' : List ℤ) (freqs freqs' centers centers' : List Float) (r : Result PassFile Refusal) : Type 0 where
  pub says : r ≡ gather_answer (is_full p s (length counts) (length times) (length freqs) (length centers)) file (length times - s) (length freqs - s)
  pub appended : (q : PassFile) → r ≡ Ok q → Appended file q p s counts counts' times times' freqs freqs' centers centers'
  pub kept : (k : Refusal) → r ≡ Err k → SameArrays counts counts' times times' freqs freqs' centers centers'

-- ---- its name

-- a name is of a file that is not later
abbrev pub no_later : Maybe ℕ → ℕ → Bool
no_later None key = false
no_later (Some k) key = nat_le k key

-- the file has a name, and none of a file that is not later was seen
unfoldable pub is_new : Name → PassFile → ℕ → Bool
is_new name r key = is_there r.name && not (no_later name.key key)

-- then it is taken, as far as there is room; else the name stays
pub record Keeps (name : Name) (file : List ℕ) (r : PassFile) (key : ℕ) (bytes bytes' : List ℕ) (n : Name) : Type 0 where
  pub since : n.key ≡ cond (is_new name r key) (Some key) name.key
  pub is : take n.size bytes' ≡ cond (is_new name r key) (take (length bytes) (name_of file r)) (take name.size bytes)
  pub room : name.size ≤ length bytes → n.size ≤ length bytes'

-- ---- one file more

-- before the first file, whatever the other arrays hold
pub record Opens (bytes : List ℕ) (g : Gathered) : Type 0 where
  pub holds : (counts : List ℕ) (times : List ℤ) (freqs centers : List Float) → Holds [] g (arrays counts times freqs centers bytes)

-- What `add` promises: a refused file leaves all as it was, and an accepted one is appended to whatever files the set is of.
pub record Extends (file : List ℕ) (g : Gathered) (a a' : Arrays) (r : Result Gathered Refusal) : Type 0 where
  pub says : status_of r ≡ status_of (gather_answer (is_full g.passes g.samples (length a.counts) (length a.times) (length a.freqs) (length a.centers)) file (length a.times - g.samples) (length a.freqs - g.samples))
  pub kept : (k : Refusal) → r ≡ Err k → a' ≡ a
  pub appended : (q : Gathered) → r ≡ Ok q → (files : List (List ℕ)) → Holds files g a → Holds (files ++ file ∷ []) q a'

-- ---- all files, where a contract cannot say what a file holds

-- the set that is there, be it of all files or, after a failure, of those before it
abbrev pub given_set : Result Gathered Gathered → Gathered
given_set (Ok g) = g
given_set (Err g) = g

-- the arrays hold the set of n files, or of fewer if one failed
pub record Gathers (n : ℕ) (r : Result Gathered Gathered) (a : Arrays) : Type 0 where
  pub files : List (List ℕ)
  pub holds : Holds files (given_set r) a
  pub most : length files ≤ n
  pub all : is_ok r ≡ true → length files ≡ n

-- one file more, or a failure
pub record Continues (g : Gathered) (a a' : Arrays) (r : Result Gathered Gathered) : Type 0 where
  pub next : (n : ℕ) → Gathers n (Ok g) a → Gathers (n + 1) r a'

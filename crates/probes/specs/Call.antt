-- What the search over all starts, the residuals and a single trial give as calls of their own, and what they leave in lent memory.
-- They serve the comparison with the original, and take any input: a set without samples is one whose sums have no terms.
use Rattle.std.specs.Prelude.{◌≡◌, Bool, not, List, [], ◌∷◌, ◌++◌, ℕ, ◌≤◌, leb, ltb, ℤ, length, get_or, drop, replicate, Float, Option as Maybe, Result, Ok, Err}
use Rattle.std.proofs.Math.Option.{Option, none, some}
use Rattle.refusal.specs.Refusals.{◌when◌, first_of, answer, unless, written}
use Rattle.refusal.specs.declared.Refusal.{Refusal}
use Rattle.refusal.specs.declared.Refusal.TheVariants.{MomentRange, Sizes, ShortMemory}
use Rattle.float.specs.Ops.{bits}
use Rattle.moment.specs.Sample.{times_in_range, Timed}
use Rattle.pass_set.specs.PassSet.{sizes_agree, Sizes as SizesOf}
use Rattle.frame.specs.declared.Vec3.{Vec3}
use Rattle.orbit.specs.declared.doppler.Station.{Station}
use Rattle.search.specs.declared.Fixed.{Fixed}
use Rattle.search.specs.declared.Found.{Found}
use Rattle.residuals.specs.Samples.{Passes, counts_at, passes_of, station_of}
use Rattle.residuals.specs.Residuals.{each, place_of, rows_of, penalised_sum, sum_of}
use Rattle.residuals.specs.Answers.{sum_answer}
use Rattle.refine.specs.Advance.{advance_of}
use Rattle.book.specs.Book.{Search, After, Book, turn, far_of}
use Rattle.book.specs.declared.Ending.TheVariants.{Running}
use Rattle.trials.specs.Trials.{state_after}
use Rattle.trials.specs.declared.State.{State}

-- ---- what all three share

-- before any work, in the order of checking: 4, 5, 21. Each call asks for as much room as any set needs.
unfoldable pub probe_refusal : (counts : List ℕ) (times : List ℤ) (freqs : List Float) (centres room least : ℕ) → Maybe Refusal
probe_refusal counts times freqs centres room least =
    first_of (
    (MomentRange when not (times_in_range times))
    ∷ (Sizes when not (sizes_agree counts (length times) (length freqs) centres))
    ∷ (ShortMemory when ltb room least)
    ∷ []
    )

-- lent memory that a call works in: untouched where it is refused by k before any work, else all zeros
abbrev pub cleared : Maybe Refusal → List Float → List Float
cleared k old = written k (replicate (length old) (bits 0)) old

-- ---- the search

-- the centre is the first pass's; without passes 0, which nothing reads
abbrev pub fixed_of : List ℤ → List Float → Vec3 → Float → Float → Fixed
fixed_of times centers rec a i = record { station = station_of times (get_or centers 0 (bits 0)) rec; a = a; i = i }

pub record Searches (k : Maybe Refusal) (f : Found) (table table' : List Float) (r : Result Found Refusal) : Type 0 where
  pub answer : r ≡ answer k f
  pub zeros : table' ≡ cleared k table

-- ---- residuals

abbrev pub samples_of : List ℕ → List ℤ → List Float → Passes
samples_of counts times freqs = passes_of counts (counts_at times) freqs

-- the output afterwards: the residuals in its first places, the places past them as they were; any refusal writes nothing
abbrev pub put_over : Option (List Float) → List Float → List Float
put_over none out = out
put_over (some r) out = r ++ drop (length r) out

-- with refusal k before any work, or none: the sum of the residuals w, of which there are none after refusal 23
abbrev pub residuals_answer : Maybe Refusal → Option (List Float) → Result Float Refusal
residuals_answer k w = unless k (sum_answer (each sum_of w))

abbrev pub residuals_out : Maybe Refusal → Option (List Float) → List Float → List Float
residuals_out k w out = written k (put_over w out) out

pub record Sums (k : Maybe Refusal) (w : Option (List Float)) (out out' : List Float) (r : Result Float Refusal) : Type 0 where
  pub answer : r ≡ residuals_answer k w
  pub written : out' ≡ residuals_out k w out

-- ---- a trial

-- as many residuals as parameters
abbrev pub enough_of : Bool → Passes → Bool
enough_of second d = leb (place_of second (length d.counts)) (rows_of second (length d.times) (length d.counts))

-- a book of nothing but this search
abbrev pub book_with : Search → Book
book_with s = record { count = 0; log = []; tried = []; kept = []; search = s; ended = Running }

abbrev pub book_after : Book → After
book_after b = record { search = b.search; ended = b.ended }

-- where one turn of the trial book leads the search s
unfoldable pub trial_of : Bool → Station → Passes → Search → After
trial_of second g d s = book_after (turn (penalised_sum second g d) (advance_of second g d) (enough_of second d) (book_with s))

-- with refusal k before any work, or none, and a what the trial leads to: 23 where a moment was too far, while every other ending,
-- the solver's 22 among them, is an answer
abbrev pub trial_answer : Maybe Refusal → After → Result After Refusal
trial_answer k a = unless k (answer (far_of a.ended) a)

-- the search and the ending of a state that is answered
abbrev pub after_of : Result State Refusal → Result After Refusal
after_of (Ok s) = Ok (state_after s)
after_of (Err r) = Err r

pub record TrialCall (k : Maybe Refusal) (a : After) (scratch scratch' : List Float) (r : Result State Refusal) : Type 0 where
  pub answer : after_of r ≡ trial_answer k a
  pub zeros : scratch' ≡ cleared k scratch

-- ---- what the observations of a call ask: samples that are not refused, and room for the counts and rotations of 4,096

pub record Observable (counts : List ℕ) (times : List ℤ) (freqs moments turns : ℕ) : Type 0 where
  pub timed : Timed times
  pub sizes : SizesOf counts (length times) freqs (length counts)
  pub places : 4096 ≤ moments
  pub pairs : 8192 ≤ turns

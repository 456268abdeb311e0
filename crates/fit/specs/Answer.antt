-- What the fit answers and writes, for every input.
use Rattle.std.specs.Prelude.{◌≡◌, refl, Bool, false, not, ◌||◌, List, [], ◌∷◌, ◌++◌, ℕ, zero, suc, ◌+◌, ◌*◌, ℤ, pos, length, get_or, drop, replicate, Float, Option, Result}
use Rattle.std.specs.Float.Ieee.{lt, of_bits, round}
use Rattle.refusal.specs.Refusals.{Check, ◌when◌, first_of, answer, written}
use Rattle.refusal.specs.declared.Refusal.{Refusal}
use Rattle.refusal.specs.declared.Refusal.TheVariants.{ShortMemory, FarMoment, LargeSum, LargeOffset}
use Rattle.float.specs.Constant.{decimal}
use Rattle.float.specs.Ops.{bits, abs_of, at}
use Rattle.moment.specs.Sample.{moment_at}
use Rattle.frame.specs.declared.Vec3.{Vec3}
use Rattle.solution.specs.declared.SolvedOrbit.{SolvedOrbit}
use Rattle.residuals.specs.Samples.{station_of}
use Rattle.book.specs.Book.{Search, Book, far_ending}
use Rattle.book.specs.Demand.{largest_sum}
use Rattle.book.specs.declared.Ending.{Ending}
use Rattle.arguments.specs.Passes.{non_empty, center_of}
use Rattle.arguments.specs.Refusals as given
use Rattle.arguments.specs.Refusals.{input_refusals, enough}
use Rattle.arguments.specs.declared.Room.{Room}
use Rattle.fit.specs.Fit.{Observations, observed, radius, first_book, trial_book}
use Rattle.fit.specs.declared.Fit.{Fit}

-- the arguments of a call, in its order
pub record Arguments : Type 0 where
  pub counts : List ℕ
  pub times : List ℤ
  pub freqs : List Float
  pub centers : List Float
  pub rec : Vec3
  pub a : Float
  pub i : Float

abbrev pub arguments : (counts : List ℕ) (times : List ℤ) (freqs centers : List Float) (rec : Vec3) (a i : Float) → Arguments
arguments counts times freqs centers rec a i =
    record { counts = counts; times = times; freqs = freqs; centers = centers; rec = rec; a = a; i = i }

-- without the empty passes; the initial semi-major axis is checked and never used
abbrev pub observations : Arguments → Observations
observations x = observed (non_empty x.counts) x.times x.freqs (station_of x.times (center_of x.counts x.centers) x.rec)

-- how many passes are not empty: P
abbrev pub pass_count : Arguments → ℕ
pass_count x = length (non_empty x.counts)

-- the books of both refinements, from the radius that the passes' times give; the second is document 01's trial book
abbrev pub first_book_of : Arguments → Book
first_book_of x = first_book (radius (observations x)) x.i (observations x)

abbrev pub book_of : Arguments → Book
book_of x = trial_book (radius (observations x)) x.i (observations x)

-- ---- refusals

-- 500 kHz
unfoldable pub largest_offset : Float
largest_offset = decimal 500000 0

pub largest_offset_bits : bits 0x411e848000000000 ≡ largest_offset
unfolding largest_offset of_bits round
largest_offset_bits = refl

-- bias k of the first n passes of a set: dt, df0, df1 and df2 are 0 to 3
unfoldable pub biases : ℕ → List Float → ℕ → List Float
biases k x zero = []
biases k x (suc n) = biases k x n ++ (at x (4 + 4 * n + k) ∷ [])

unfoldable pub any_large : List Float → Bool
any_large [] = false
any_large (d ∷ ds) = lt largest_offset (abs_of d) || any_large ds

-- of a second refinement that ended so: a moment too far, the best sum (the largest f64 where none was kept) above 1e11, a df0
-- above 500 kHz
abbrev pub search_refusals : Ending → Search → ℕ → List Check
search_refusals ended s passes =
    (FarMoment when far_ending ended)
    ∷ (LargeSum when lt largest_sum s.best)
    ∷ (LargeOffset when any_large (biases 1 s.best_set passes))
    ∷ []

-- while it works: 23 comes from either refinement
abbrev pub work_refusals : Book → Book → ℕ → List Check
work_refusals b c passes = (FarMoment when far_ending b.ended) ∷ search_refusals c.ended c.search passes

-- all, in document 01's order: of the input, of the lent memory, and of the work
unfoldable pub fit_refusal : Arguments → Room → Option Refusal
fit_refusal x room = first_of (
    input_refusals x.counts x.times x.freqs x.centers x.rec x.a x.i
    ((ShortMemory when not (enough (length x.times) (pass_count x) room))
    ∷ work_refusals (first_book_of x) (book_of x) (pass_count x)))

-- those before it works
abbrev pub early_refusal : Arguments → Room → Option Refusal
early_refusal x room = given.refusal_of x.counts x.times x.freqs x.centers x.rec x.a x.i room

-- ---- the answer

-- a set's orbit, at the first sample's moment
abbrev pub orbit_of : List Float → List ℤ → SolvedOrbit
orbit_of s times = record { a = at s 0; i = at s 1; raan0 = at s 2; u0 = at s 3; epoch = moment_at (get_or times 0 (pos 0)) }

-- the book's best set, count and best sum
abbrev pub fit_found : Search → ℕ → List ℤ → Fit
fit_found s count times = record { orbit = orbit_of s.best_set times; trials = count; best = s.best }

-- the lent outputs
pub record Outputs : Type 0 where
  pub dts : List Float
  pub dfs : List Float
  pub df1s : List Float
  pub df2s : List Float
  pub log : List Float

abbrev pub outputs : List Float → List Float → List Float → List Float → List Float → Outputs
outputs dts dfs df1s df2s log = record { dts = dts; dfs = dfs; df1s = df1s; df2s = df2s; log = log }

abbrev pub output_room : Outputs → List Float → Room
output_room o scratch =
    given.room_of (length o.dts) (length o.dfs) (length o.df1s) (length o.df2s) (length o.log) (length scratch)

-- new in the first places, the places past it as they were
abbrev pub over : List Float → List Float → List Float
over new old = new ++ drop (length new) old

-- a set's biases of n passes and the logged sums, written so
abbrev pub filled_outputs : List Float → ℕ → List Float → Outputs → Outputs
filled_outputs s n log o =
    outputs (over (biases 0 s n) o.dts) (over (biases 1 s n) o.dfs) (over (biases 2 s n) o.df1s) (over (biases 3 s n) o.df2s)
    (over log o.log)

-- A refusal writes nothing, and leaves the scratch untouched up to 21; afterwards it is all zeros.
pub record Fits (x : Arguments) (o o' : Outputs) (scratch scratch' : List Float) (r : Result Fit Refusal) : Type 0 where
  pub answered : r ≡ answer (fit_refusal x (output_room o scratch)) (fit_found (book_of x).search (book_of x).count x.times)
  pub filled : o' ≡ written (fit_refusal x (output_room o scratch)) (filled_outputs (book_of x).search.best_set (pass_count x) (book_of x).log o) o
  pub zeros : scratch' ≡ written (early_refusal x (output_room o scratch)) (replicate (length scratch) (bits 0)) scratch

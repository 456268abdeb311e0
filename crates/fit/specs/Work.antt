-- What the inner functions ask and give.
use Rattle.std.specs.Prelude.{◌≡◌, Bool, List, ℕ, ◌+◌, ◌*◌, ◌≤◌, ◌<◌, ℤ, length, take, Float, Result, MatchResult, Some, None}
use Rattle.refusal.specs.Refusals.{first_of}
use Rattle.refusal.specs.declared.Refusal.{Refusal}
use Rattle.moment.specs.Sample.{Timed}
use Rattle.residuals.specs.Residuals.{place_of, rows_of}
use Rattle.book.specs.Book.{Book}
use Rattle.trials.specs.Trials.{state_search, RunsTo}
use Rattle.trials.specs.declared.State.{State}
use Rattle.trials.specs.declared.Trials.{Trials}
use Rattle.arguments.specs.Refusals.{scratch_size}
use Rattle.start.specs.declared.Recording.{Recording}
use Rattle.fit.specs.Fit.{Observations, observed, first_book, trial_book}
use Rattle.fit.specs.Answer.{work_refusals, fit_found, Outputs, filled_outputs}
use Rattle.fit.specs.declared.Fit.{Fit}

-- what a recording observes
abbrev pub observed_in : Recording → Observations
observed_in x = observed x.set.counts.now x.set.times.now x.set.freqs.now x.station

-- of a refinement: room for the sums and for the table
pub record Refines (second : Bool) (most : ℕ) (x : Recording) (log scratch : ℕ) : Type 0 where
  pub log_room : most ≤ log
  pub few : most ≤ 150
  pub table : rows_of second (length x.set.times.now) (length x.set.counts.now) * place_of second (length x.set.counts.now) ≤ scratch

-- of two passes: room for the table of rotations and for the table of derivatives
pub record RoomForTwo (x : Recording) (scratch : ℕ) : Type 0 where
  pub two : length x.set.counts.now ≡ 2
  pub rotations : 20000 ≤ scratch
  pub table : (length x.set.times.now + 2) * 8 ≤ scratch

-- of both refinements: two passes or more, and the scratch that document 01 asks for
pub record Roomy (x : Recording) (scratch : ℕ) : Type 0 where
  pub two : 2 ≤ length x.set.counts.now
  pub room : scratch_size (length x.set.times.now) (length x.set.counts.now) ≤ scratch

-- a state is where a book ended
pub record Ends (b : Book) (s : State) : Type 0 where
  pub search : state_search s ≡ b.search
  pub ended : s.ended ≡ b.ended

-- the work's refusal, or, without one, its trials, which are the trial book
abbrev pub WorkDone : Observations → Float → Float → List Float → List Float → Result Trials Refusal → Type 0
WorkDone x a i old log w =
    let refusal = first_of (work_refusals (first_book a i x) (trial_book a i x) (length x.counts)) in
    MatchResult w (λ t. (refusal ≡ None) × RunsTo (trial_book a i x) old log t) (λ r. refusal ≡ Some r)

-- of the outputs: room for n passes and for the sums
pub record OutputsRoom (count n : ℕ) (times : List ℤ) (sums : List Float) (o : Outputs) : Type 0 where
  pub timed : Timed times
  pub some : 0 < length times
  pub few : n ≤ 16
  pub dts_room : n ≤ length o.dts
  pub dfs_room : n ≤ length o.dfs
  pub df1s_room : n ≤ length o.df1s
  pub df2s_room : n ≤ length o.df2s
  pub sums_room : count ≤ length sums
  pub log_room : length sums ≤ length o.log

-- the answer of these trials, and the outputs
pub record Puts (t : Trials) (n : ℕ) (times : List ℤ) (sums : List Float) (o o' : Outputs) (r : Fit) : Type 0 where
  pub answered : r ≡ fit_found (state_search t.state) t.count times
  pub written : o' ≡ filled_outputs t.state.best_params n (take t.count sums) o

-- What the code's states and answers mean, and what its functions ask and give.
use Rattle.std.specs.Prelude.{◌≡◌, Bool, true, false, List, ◌++◌, ℕ, ◌+◌, ◌*◌, ◌≤◌, length, take, drop, Float}
use Rattle.std.proofs.Math.Option.{Option, none, some}
use Rattle.std.specs.Float.Ieee.{lt}
use Rattle.orbit.specs.declared.doppler.Station.{Station}
use Rattle.residuals.specs.Samples.{Passes}
use Rattle.residuals.specs.Residuals.{each, rows_of, residuals, penalised_sum}
use Rattle.residuals.specs.Answers.{Summed}
use Rattle.normal.specs.Step.{Outcome}
use Rattle.normal.specs.Answers.{outcome}
use Rattle.refine.specs.Advance.{advance_of, cells_of}
use Rattle.book.specs.Book.{Search, After, compared, arrival, onward, Book}
use Rattle.trials.specs.declared.State.{State}
use Rattle.trials.specs.declared.Tried.{Tried}
use Rattle.trials.specs.declared.Followed.{Followed}
use Rattle.trials.specs.declared.Trials.{Trials}

abbrev pub state_search : State → Search
state_search s = record { next = s.params; best_set = s.best_params; damping = s.damping; best = s.best }

abbrev pub state_after : State → After
state_after s = record { search = state_search s; ended = s.ended }

-- ---- a turn's first half

-- whether there is a sum, below the best
abbrev pub below : Option Float → Float → Bool
below none b = false
below (some v) b = lt v b

-- how many residuals there are
abbrev pub rows_in : Bool → Passes → ℕ
rows_in second d = rows_of second (length d.times) (length d.counts)

-- a trial of the search s: the next set's sum or its refusal, with its residuals in r, and where the search is then
pub record Tries (second : Bool) (g : Station) (d : Passes) (s : Search) (r : List Float) (t : Tried) : Type 0 where
  pub summed : Summed (take (rows_in second d) r) (residuals second g d s.next) t.sum
  pub kept : t.kept ≡ below (penalised_sum second g d s.next) s.best
  pub after : state_after t.state ≡ compared (penalised_sum second g d s.next) s

-- ---- its second half

-- what it asks: room for the residuals, and those of the set x where they are said to be known
pub record HeldResiduals (second known : Bool) (g : Station) (d : Passes) (x r : List Float) : Type 0 where
  pub room : length d.times + 3 * length d.counts ≤ length r
  pub held : known ≡ true → some (take (rows_in second d) r) ≡ residuals second g d x

-- where the outcome o leads the search s
pub record Arrives (s : Search) (o : Outcome) (f : Followed) : Type 0 where
  pub step : outcome f.step f.state.params ≡ o
  pub after : state_after f.state ≡ arrival s o

-- what follows a trial that left the search s; the residuals of its set are left in r, and what lies behind the table stays
pub record Follows (second enough : Bool) (g : Station) (d : Passes) (s : Search) (r scratch scratch' : List Float) (f : Followed) : Type 0 where
  pub arrives : Arrives s (onward (penalised_sum second g d) (advance_of second g d) enough s) f
  pub left : each (λ _. take (rows_in second d) r) (residuals second g d s.next) ≡ residuals second g d s.next
  pub behind : drop (cells_of second d) scratch' ≡ drop (cells_of second d) scratch

-- ---- all trials

-- the answer and the log are the book's; later places of the log stay
pub record RunsTo (b : Book) (old log : List Float) (t : Trials) : Type 0 where
  pub search : state_search t.state ≡ b.search
  pub ended : t.state.ended ≡ b.ended
  pub count : t.count ≡ b.count
  pub logged : log ≡ b.log ++ drop (length b.log) old

-- and so do those of the scratch behind the table
pub record Runs (b : Book) (old log : List Float) (cells : ℕ) (scratch scratch' : List Float) (t : Trials) : Type 0 where
  pub runs : RunsTo b old log t
  pub behind : drop cells scratch' ≡ drop cells scratch

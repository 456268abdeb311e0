-- The same for other languages: fields of an answer go to places of their own, which a refusal leaves as they were.
use Rattle.std.specs.Prelude.{◌≡◌, List, [], ◌∷◌, ℕ, Float, Option as Maybe, Result, Ok, Err}
use Rattle.std.proofs.Math.Option.{Option}
use Rattle.refusal.specs.Refusals.{answer, written, status_of, left_by}
use Rattle.refusal.specs.declared.Refusal.{Refusal}
use Rattle.search.specs.declared.Found.{Found}
use Rattle.book.specs.Book.{Search, After}
use Rattle.book.specs.declared.Ending.{Ending}
use Rattle.book.specs.declared.Ending.TheVariants.{Running, Refused, Short, Damped, Converged}
use Rattle.probes.specs.Call.{cleared, residuals_answer, residuals_out, trial_answer}

abbrev pub three : Found → List Float
three f = f.raan0 ∷ f.u0 ∷ f.rss ∷ []

pub record SearchesTo (k : Maybe Refusal) (f : Found) (table table' out out' : List Float) (r : ℕ) : Type 0 where
  pub answer : r ≡ status_of (answer k f)
  pub written : out' ≡ written k (three f) out
  pub zeros : table' ≡ cleared k table

pub record SumsTo (k : Maybe Refusal) (w : Option (List Float)) (out out' : List Float) (sum sum' : Float) (r : ℕ) : Type 0 where
  pub answer : r ≡ status_of (residuals_answer k w)
  pub written : out' ≡ residuals_out k w out
  pub summed : sum' ≡ left_by sum (residuals_answer k w)

abbrev pub search_at : (params best : List Float) → (damping sum : Float) → Search
search_at params best damping sum = record { next = params; best_set = best; damping = damping; best = sum }

-- why a refinement ended, 0 where it goes on; a refusal that ends it is the solver's
abbrev pub ending_number : Ending → ℕ
ending_number Running = 0
ending_number Short = 2
ending_number Damped = 3
ending_number (Refused k) = 4
ending_number Converged = 5

-- what a trial's answer leaves in the places of a search, and in that of an ending's number
abbrev pub search_left : Search → Result After Refusal → Search
search_left old (Ok a) = a.search
search_left old (Err r) = old

abbrev pub ending_left : ℕ → Result After Refusal → ℕ
ending_left old (Ok a) = ending_number a.ended
ending_left old (Err r) = old

pub record TriesTo (k : Maybe Refusal) (a : After) (scratch scratch' : List Float) (s s' : Search) (ended ended' r : ℕ) : Type 0 where
  pub answer : r ≡ status_of (trial_answer k a)
  pub state : s' ≡ search_left s (trial_answer k a)
  pub reason : ended' ≡ ending_left ended (trial_answer k a)
  pub zeros : scratch' ≡ cleared k scratch

-- What `wisvalom_compute_fractional_difference_history` answers and writes: as `compute_fractional_difference_history`, with 0 where the differences are
-- written.
use Rattle.std.specs.Prelude.{◌≡◌, ℕ, List, length, Float}
use Rattle.monna.specs.Answers.{history_refusal, history_out}
use Rattle.refusal.specs.Refusals.{number_or_zero}

pub record DiffersTo (x o o' : List Float) (r : ℕ) : Type 0 where
  pub answered : r ≡ number_or_zero (history_refusal (length x) (length o))
  pub out : o' ≡ history_out (history_refusal (length x) (length o)) x o

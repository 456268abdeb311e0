-- What `wisvalom_solve_linear_system` answers, writes and leaves: as `solve_linear_system`, with 0 for a solution that was found.
use Rattle.std.specs.Prelude.{◌≡◌, List, ℕ, length, Float}
use Rattle.linear.specs.Elimination.{solution_of}
use Rattle.linear.specs.Answer.{system_refusal, out_of, scratch_of}
use Rattle.refusal.specs.Refusals.{number_or_zero}

pub record SolvesTo (n : ℕ) (m v o o' s s' : List Float) (r : ℕ) : Type 0 where
  pub answer : r ≡ number_or_zero (system_refusal n m v (length o) (length s))
  pub out : o' ≡ out_of (system_refusal n m v (length o) (length s)) (solution_of n m v) n o
  pub scratch : s' ≡ scratch_of (system_refusal n m v (length o) (length s)) s

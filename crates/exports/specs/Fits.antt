-- What the fit's call promises, with its answer's fields as places of their own.
use Rattle.std.specs.Prelude.{◌≡◌, List, ℕ, pos, Float, Result}
use Rattle.refusal.specs.Refusals.{status_of, left_by}
use Rattle.refusal.specs.declared.Refusal.{Refusal}
use Rattle.float.specs.Ops.{bits}
use Rattle.solution.specs.declared.SolvedOrbit.{SolvedOrbit}
use Rattle.fit.specs.Answer.{Arguments, Outputs, Fits}
use Rattle.fit.specs.declared.Fit.{Fit}
use Rattle.exports.specs.Elements.{orbit}

abbrev pub fitted : SolvedOrbit → ℕ → Float → Fit
fitted orbit trials best = record { orbit = orbit; trials = trials; best = best }

-- after a refusal: zeros
abbrev pub no_fit : Fit
no_fit = fitted (orbit (bits 0) (bits 0) (bits 0) (bits 0) (pos 0) 0) 0 (bits 0)

-- the number, and the places' numbers, are those of the fit's answer
pub record FitsTo (x : Arguments) (o o' : Outputs) (scratch scratch' : List Float) (orbit : SolvedOrbit) (trials : ℕ) (best : Float) (r : ℕ) : Type 0 where
  pub answer : Result Fit Refusal
  pub fits : Fits x o o' scratch scratch' answer
  pub status : r ≡ status_of answer
  pub put : fitted orbit trials best ≡ left_by no_fit answer

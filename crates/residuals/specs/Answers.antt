-- What the answers of the code mean.
use Rattle.std.specs.Prelude.{◌≡◌, List, Float, Result, Ok, Err, ⊤}
use Rattle.std.proofs.Math.Option.{Option, none, some}
use Rattle.refusal.specs.declared.Refusal.{Refusal}
use Rattle.refusal.specs.declared.Refusal.TheVariants.{FarMoment}
use Rattle.residuals.specs.Samples.{Passes, passes_of}
use Rattle.residuals.specs.Residuals.{each, sum_of}
use Rattle.residuals.specs.declared.observations.Observations.{Observations}

-- the passes that a fit's observations are
abbrev pub passes_in : Observations → Passes
passes_in o = passes_of o.counts.now o.times.now o.freqs.now

-- a sum, or refusal 23
abbrev pub sum_answer : Option Float → Result Float Refusal
sum_answer none = Err FarMoment
sum_answer (some v) = Ok v

-- what a call answers of the residuals w, and that they, if there are any, are what it wrote, xs
pub record Summed (xs : List Float) (w : Option (List Float)) (r : Result Float Refusal) : Type 0 where
  pub answer : r ≡ sum_answer (each sum_of w)
  pub written : each (λ _. xs) w ≡ w

-- an answer and what was written: nothing, where it is a refusal
abbrev pub filled : Result ⊤ Refusal → List Float → Option (List Float)
filled (Ok done) xs = some xs
filled (Err r) xs = none

abbrev pub filled_answer : Option (List Float) → Result ⊤ Refusal
filled_answer none = Err FarMoment
filled_answer (some xs) = Ok tt

-- what a call wrote, xs, and its answer are those of w, where nothing is refusal 23
pub record Filled (r : Result ⊤ Refusal) (xs : List Float) (w : Option (List Float)) : Type 0 where
  pub written : filled r xs ≡ w
  pub answer : r ≡ filled_answer w

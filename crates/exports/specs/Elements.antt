-- An orbit by its numbers, a state as a list, and what the element lines' call promises with its answer's fields as numbers of their own.
use Rattle.std.specs.Prelude.{◌≡◌, List, ◌∷◌, [], ◌++◌, ℕ, ◌+◌, ℤ, Float, length, drop}
use Rattle.frame.specs.declared.State.{State}
use Rattle.solution.specs.declared.SolvedOrbit.{SolvedOrbit}
use Rattle.refusal.specs.Refusals.{number_or_zero, written}
use Rattle.tle.specs.Lines.{catalog_of}
use Rattle.tle.specs.Answer.{lines_refusal}
use Rattle.exports.specs.Answers.{moment}

abbrev pub six : State → List Float
six s = s.x ∷ s.y ∷ s.z ∷ s.vx ∷ s.vy ∷ s.vz ∷ []

abbrev pub orbit : (a i raan0 u0 : Float) (seconds : ℤ) (nanos : ℕ) → SolvedOrbit
orbit a i raan0 u0 s n = record { a = a; i = i; raan0 = raan0; u0 = u0; epoch = moment s n }

-- the number of bytes is 0 where the lines are refused
pub record FormatsTo (name : List ℕ) (o : SolvedOrbit) (out out' : List ℕ) (size r : ℕ) : Type 0 where
  pub refusal : r ≡ number_or_zero (lines_refusal name o (length out))
  pub bytes : size ≡ written (lines_refusal name o (length out)) (length name + 141) 0
  pub text : out' ≡ written (lines_refusal name o (length out)) (catalog_of name o ++ drop (length name + 141) out) out

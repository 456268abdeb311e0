-- What a call gives for an answer: the refusal's number, or 0, and its three coordinates, or, refused, what was there.
use Rattle.std.specs.Prelude.{◌≡◌, List, [], ◌∷◌, ℕ, Float, Result, Ok, Err}
use Rattle.frame.specs.declared.Vec3.{Vec3}
use Rattle.refusal.specs.declared.Refusal.{Refusal}
use Rattle.refusal.specs.Refusals.{status_of}

abbrev pub place_given : Result Vec3 Refusal → List Float → List Float
place_given (Ok v) out = v.x ∷ v.y ∷ v.z ∷ []
place_given (Err r) out = out

pub record Gives (p : Result Vec3 Refusal) (out out' : List Float) (r : ℕ) : Type 0 where
  pub number : r ≡ status_of p
  pub place : out' ≡ place_given p out

-- What the functions for other languages are given, and what they give of a state.
use Rattle.std.specs.Prelude.{ℕ, List, ◌∷◌, [], ℤ, Float, Result, Ok, Err}
use Rattle.refusal.specs.declared.Refusal.{Refusal}
use Rattle.frame.specs.declared.State.{State}
use Rattle.moment.specs.declared.Moment.{Moment}
use Rattle.orbit.specs.declared.doppler.DfPoly.{DfPoly}

abbrev pub moment : ℤ → ℕ → Moment
moment s n = record { seconds = s; nanos = n }

abbrev pub polynomial : Float → Float → Float → DfPoly
polynomial c0 c1 c2 = record { 0 = c0; 1 = c1; 2 = c2 }

-- position, then velocity
abbrev pub state_values : Result State Refusal → Result (List Float) Refusal
state_values (Ok s) = Ok (s.x ∷ s.y ∷ s.z ∷ s.vx ∷ s.vy ∷ s.vz ∷ [])
state_values (Err r) = Err r

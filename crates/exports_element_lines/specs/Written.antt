-- What a call gives for an answer: its number, and its six numbers, or, refused, what was there.
use Rattle.std.specs.Prelude.{◌≡◌, List, [], ◌∷◌, ℕ, Result, Ok, Err}
use Rattle.refusal.specs.Refusals.{status_of, left_by}
use Rattle.refusal.specs.declared.Refusal.{Refusal}
use Rattle.element_lines.specs.declared.Elements.{Elements}

abbrev pub six_numbers : Result Elements Refusal → Result (List ℕ) Refusal
six_numbers (Ok e) = Ok (e.year ∷ e.day ∷ e.inclination ∷ e.node ∷ e.mean_anomaly ∷ e.mean_motion ∷ [])
six_numbers (Err r) = Err r

pub record GivesElements (e : Result Elements Refusal) (out out' : List ℕ) (r : ℕ) : Type 0 where
  pub number : r ≡ status_of e
  pub numbers : out' ≡ left_by out (six_numbers e)

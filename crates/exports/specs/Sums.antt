-- What the closest moments and the sums answer and write: their values and 0, or the refusal's number, and what was there.
use Rattle.std.specs.Prelude.{◌≡◌, List, ℕ, ℤ, ◌∷◌, [], length, Float, Result, Ok, Err}
use Rattle.refusal.specs.Refusals.{number_or_zero}
use Rattle.refusal.specs.declared.Refusal.{Refusal}
use Rattle.moment.specs.declared.Moment.{Moment}
use Rattle.frame.specs.declared.Vec3.{Vec3}
use Rattle.approach.specs.declared.Gradient.{Gradient}
use Rattle.approach.specs.Answers.{pca_refusal_of, pca_written}

-- as get_pred_pca_times, with 0 where the moments are written
pub record FindsPcasTo (a i raan u0 : Float) (epoch : Moment) (rec : Vec3) (counts : List ℕ) (times : List ℤ) (freqs centers : List Float) (out out' : List ℤ) (r : ℕ) : Type 0 where
  pub answer : r ≡ number_or_zero (pca_refusal_of epoch counts times freqs centers (length out))
  pub output : out' ≡ pca_written epoch rec (record { a = a; i = i; raan0 = raan; u0 = u0 }) counts times freqs centers out

abbrev pub gradient_list : Gradient → List Float
gradient_list g = g.grad_a ∷ g.grad_i ∷ g.grad_raan ∷ g.grad_u0 ∷ []

abbrev pub gradient_values : List Float → Result Gradient Refusal → List Float
gradient_values old (Ok g) = gradient_list g
gradient_values old (Err r) = old

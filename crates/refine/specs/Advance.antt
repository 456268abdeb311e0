-- What follows a trial: the table of the set's derivatives, and the damped step.
use Rattle.std.specs.Prelude.{◌≡◌, Bool, cond, List, ℕ, ◌*◌, ◌≤◌, length, drop, Float}
use Rattle.std.proofs.Math.Option.{some}
use Rattle.refusal.specs.declared.Refusal.TheVariants.{FarMoment}
use Rattle.orbit.specs.declared.doppler.Station.{Station}
use Rattle.residuals.specs.Samples.{Passes}
use Rattle.residuals.specs.Residuals.{place_of, rows_of, residuals}
use Rattle.normal.specs.Step.{Outcome, refused, damped_step}
use Rattle.normal.specs.Answers.{outcome_of}
use Rattle.normal.specs.declared.Stepped.{Stepped}
use Rattle.refine.specs.Jacobian.{eps_of, residual_at, entry_of, any_far}

-- from the set x with the damping lambda: the next set and the step's size, the solver's refusal, or refusal 23
unfoldable pub advance_of : Bool → Station → Passes → Float → List Float → Outcome
advance_of second g d lambda x =
    let eps = eps_of second in
    let res = residuals second g d in
    let m = rows_of second (length d.times) (length d.counts) in
    let n = place_of second (length d.counts) in
    cond (any_far eps res x n 0) (refused FarMoment) (damped_step second m n (entry_of eps res x) (residual_at res x) lambda x)

-- what a step asks: the set's residuals r, and room for the table
pub record Ready (second : Bool) (g : Station) (d : Passes) (x r : List Float) (room : ℕ) : Type 0 where
  pub rows : length r ≡ rows_of second (length d.times) (length d.counts)
  pub known : some r ≡ residuals second g d x
  pub table : length r * place_of second (length d.counts) ≤ room

-- a table's places: rows by parameters
abbrev pub cells_of : Bool → Passes → ℕ
cells_of second d = rows_of second (length d.times) (length d.counts) * place_of second (length d.counts)

-- the answer is this outcome, and what lies behind the table's places in the scratch stays
pub record Advances (cells : ℕ) (o : Outcome) (scratch scratch' : List Float) (s : Stepped) : Type 0 where
  pub outcome : outcome_of s ≡ o
  pub behind : drop cells scratch' ≡ drop cells scratch

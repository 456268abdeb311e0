-- What the two calls of a fit with its lines promise, of the numbers that were put to places of their own.
use Rattle.std.specs.Prelude.{◌≡◌, List, ℕ, Float, Result, Ok, Err}
use Rattle.refusal.specs.Refusals.{number_of, status_of, left_by}
use Rattle.refusal.specs.declared.Refusal.{Refusal}
use Rattle.frame.specs.declared.Vec3.{Vec3}
use Rattle.fit.specs.Answer.{Arguments, Outputs}
use Rattle.fit.specs.declared.Fit.{Fit}
use Rattle.determination.specs.Calls.{fit_in, bytes_written, Determines, DeterminesStored}
use Rattle.determination.specs.declared.Determination.{Determination}
use Rattle.exports.specs.Fits.{no_fit}

-- what is told of the lines: the fit's refusal where there are none, else their own, or 0
abbrev pub lines_status : Result Determination Refusal → ℕ
lines_status (Ok d) = status_of d.lines
lines_status (Err k) = number_of k

-- the numbers of an answer: zeros after a refusal, with its number for the lines too
pub record Told (d : Result Determination Refusal) (fit : Fit) (lines size r : ℕ) : Type 0 where
  pub status : r ≡ status_of d
  pub fit_put : fit ≡ left_by no_fit (fit_in d)
  pub lines_put : lines ≡ lines_status d
  pub length_put : size ≡ bytes_written d

-- the call of `determination` has an answer, which is as it promises there, and these are its numbers
pub record DeterminesTo (x : Arguments) (w w' : Outputs) (scratch scratch' : List Float) (name text text' : List ℕ) (fit : Fit) (lines size r : ℕ) : Type 0 where
  pub answer : Result Determination Refusal
  pub determines : Determines x w w' scratch scratch' name text text' answer
  pub told : Told answer fit lines size r

pub record DeterminesStoredTo (b : List ℕ) (centers : List Float) (rec : Vec3) (a i : Float) (w w' : Outputs) (scratch scratch' : List Float) (name text text' : List ℕ) (fit : Fit) (lines size r : ℕ) : Type 0 where
  pub answer : Result Determination Refusal
  pub determines : DeterminesStored b centers rec a i w w' scratch scratch' name text text' answer
  pub told : Told answer fit lines size r

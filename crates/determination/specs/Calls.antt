-- What the two calls answer and write, for every input.
use Rattle.std.specs.Prelude.{◌≡◌, not, List, [], ◌∷◌, ℕ, eqb, length, Float, Option, Some, None, Result, Ok, Err}
use Rattle.refusal.specs.Refusals.{◌when◌, first_of, left_by}
use Rattle.refusal.specs.declared.Refusal.{Refusal}
use Rattle.refusal.specs.declared.Refusal.TheVariants.{MomentRange, Sizes}
use Rattle.moment.specs.Sample.{times_in_range}
use Rattle.frame.specs.declared.Vec3.{Vec3}
use Rattle.stored.specs.Sets.{passes_in, counts_in, times_in, freqs_in, sized_right}
use Rattle.fit.specs.Answer.{Arguments, arguments, Outputs, Fits}
use Rattle.fit.specs.declared.Fit.{Fit}
use Rattle.tle.specs.Answer.{Formats}
use Rattle.determination.specs.Demand.{Accepted, Demand}
use Rattle.determination.specs.declared.Determination.{Determination}

-- the fit's answer
abbrev pub fit_in : Result Determination Refusal → Result Fit Refusal
fit_in (Ok d) = Ok d.fit
fit_in (Err k) = Err k

-- how many bytes of the text are the lines: none of a refused fit
abbrev pub bytes_written : Result Determination Refusal → ℕ
bytes_written (Ok d) = left_by 0 d.lines
bytes_written (Err k) = 0

-- The fit is the definition's; its lines are written only where it is accepted, and demand 3 holds as far as both are accepted.
pub record Determines (x : Arguments) (w w' : Outputs) (scratch scratch' : List Float) (name text text' : List ℕ) (r : Result Determination Refusal) : Type 0 where
  pub fits : Fits x w w' scratch scratch' (fit_in r)
  pub formats : (d : Determination) → r ≡ Ok d → Formats name d.fit.orbit text text' d.lines
  pub unwritten : (k : Refusal) → r ≡ Err k → text' ≡ text
  pub accepted : (d : Determination) → r ≡ Ok d → Accepted x w w' d.fit
  pub demand : (d : Determination) → r ≡ Ok d → (n : ℕ) → d.lines ≡ Ok n → Demand x name w w' d.fit text'

-- ---- from stored bytes

-- any 5 first, of the bytes or of centres that are not one per pass, then 4
unfoldable pub bytes_refusal : List ℕ → List Float → Option Refusal
bytes_refusal b centers =
    first_of (
    (Sizes when not (sized_right b))
    ∷ (Sizes when not (eqb (passes_in b) (length centers)))
    ∷ (MomentRange when not (times_in_range (times_in b)))
    ∷ []
    )

-- the arguments of a fit on the set that the bytes hold
abbrev pub arguments_in : List ℕ → List Float → Vec3 → Float → Float → Arguments
arguments_in b centers rec a i = arguments (counts_in b) (times_in b) (freqs_in b) centers rec a i

-- refused by this one before a fit: nothing is written
pub record Refuses (k : Refusal) (w w' : Outputs) (scratch scratch' : List Float) (text text' : List ℕ) (r : Result Determination Refusal) : Type 0 where
  pub answered : r ≡ Err k
  pub same_outputs : w' ≡ w
  pub same_scratch : scratch' ≡ scratch
  pub same_text : text' ≡ text

pub record DeterminesStored (b : List ℕ) (centers : List Float) (rec : Vec3) (a i : Float) (w w' : Outputs) (scratch scratch' : List Float) (name text text' : List ℕ) (r : Result Determination Refusal) : Type 0 where
  pub refused : (k : Refusal) → bytes_refusal b centers ≡ Some k → Refuses k w w' scratch scratch' text text' r
  pub determined : bytes_refusal b centers ≡ None → Determines (arguments_in b centers rec a i) w w' scratch scratch' name text text' r

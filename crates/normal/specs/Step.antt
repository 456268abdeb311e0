-- The damped step (Marquardt 1963) of both refinements: damping, scaling by the diagonal's roots in the second alone, solution,
-- new set, size of the step.
use Rattle.std.specs.Prelude.{◌≡◌, refl, Bool, cond, List, ℕ, ◌+◌, ◌*◌, set, replicate, Float}
use Rattle.std.proofs.Math.Option.{Option, none, some}
use Rattle.std.specs.Float.Ieee.{lt, of_bits, round}
use Rattle.refusal.specs.declared.Refusal.{Refusal}
use Rattle.refusal.specs.declared.Refusal.TheVariants.{SmallPivot}
use Rattle.float.specs.Constant.{decimal}
use Rattle.float.specs.Ops.{◌⊕◌, ◌⊖◌, ◌⊗◌, ◌⊘◌, bits, one, max_of, min_of, abs_of, at}
use Rattle.float.specs.Trig.{pi}
use Rattle.solution.specs.Range.{least_radius, most_radius}
use Rattle.loops.specs.Loop.{for}
use Rattle.linear.specs.Elimination.{solution_of}
use Rattle.roots.specs.Root.{sqrt_of}
use Rattle.normal.specs.Normal.{jtj_of, jtr_of}

-- the diagonal of an n by n matrix raised by lambda times itself
unfoldable pub damp_cell : ℕ → Float → ℕ → List Float → List Float
damp_cell n lambda k a = set a (k * n + k) (at a (k * n + k) ⊕ lambda ⊗ at a (k * n + k))

unfoldable pub damped : ℕ → Float → List Float → List Float
damped n lambda a = for 0 n (damp_cell n lambda) a

-- a parameter's scale: the root of its place on the diagonal if that is above 1e-15, else 1
unfoldable pub least_scale : Float
least_scale = decimal 1 15

pub least_scale_bits : bits 0x3cd203af9ee75616 ≡ least_scale
unfolding least_scale of_bits round
least_scale_bits = refl

unfoldable pub scale_of : Float → Float
scale_of s = cond (lt least_scale s) s one

unfoldable pub set_scale : ℕ → List Float → ℕ → List Float → List Float
set_scale n a i f = set f i (scale_of (sqrt_of (at a (i * n + i))))

unfoldable pub scales : ℕ → List Float → List Float
scales n a = for 0 n (set_scale n a) (replicate n (bits 0))

-- row r, column c divided by both scales; each of n numbers divided by its own
unfoldable pub scale_cell : ℕ → List Float → ℕ → ℕ → List Float → List Float
scale_cell n f r c a = set a (r * n + c) (at a (r * n + c) ⊘ (at f r ⊗ at f c))

unfoldable pub scale_row : ℕ → List Float → ℕ → List Float → List Float
scale_row n f r a = for 0 n (scale_cell n f r) a

unfoldable pub scaled : ℕ → List Float → List Float → List Float
scaled n f a = for 0 n (scale_row n f) a

unfoldable pub divide_at : List Float → ℕ → List Float → List Float
divide_at f k v = set v k (at v k ⊘ at f k)

unfoldable pub divided : ℕ → List Float → List Float → List Float
divided n f v = for 0 n (divide_at f) v

-- the step taken from the set; a held to 6500e3 .. 20000e3 m, i to 0 .. π
unfoldable pub subtract_at : List Float → ℕ → List Float → List Float
subtract_at delta k x = set x k (at x k ⊖ at delta k)

unfoldable pub subtracted : ℕ → List Float → List Float → List Float
subtracted n delta x = for 0 n (subtract_at delta) x

unfoldable pub held_to : Float → Float → Float → Float
held_to least most v = min_of (max_of v least) most

unfoldable pub held : List Float → List Float
held x = let y = set x 0 (held_to least_radius most_radius (at x 0)) in set y 1 (held_to (bits 0) pi (at y 1))

-- the largest step relative to its parameter, of n, by max from 0 on: a NaN never counts
unfoldable pub least_size : Float
least_size = decimal 1 10

pub least_size_bits : bits 0x3ddb7cdfd9d7bdbb ≡ least_size
unfolding least_size of_bits round
least_size_bits = refl

unfoldable pub relative : List Float → List Float → ℕ → Float → Float
relative x delta k largest = max_of largest (abs_of (at delta k) ⊘ max_of (abs_of (at x k)) least_size)

unfoldable pub largest_step : ℕ → List Float → List Float → Float
largest_step n x delta = for 0 n (relative x delta) (bits 0)

-- what follows a trial: the next set and the step's size; too few residuals; or a refusal, the solver's 22 or 23
pub data Outcome : Type 0 where
  next : List Float → Float → Outcome
  short : Outcome
  refused : Refusal → Outcome

-- from the set x by the step delta
abbrev pub stepped_by : ℕ → List Float → List Float → Outcome
stepped_by n x delta = let y = held (subtracted n delta x) in next y (largest_step n y delta)

-- by the solution, where there is one, divided by the scales f in the second refinement
abbrev pub unscaled : Bool → ℕ → List Float → List Float → List Float
unscaled second n f s = cond second (divided n f s) s

abbrev pub finish : Bool → ℕ → List Float → List Float → Option (List Float) → Outcome
finish second n f x none = refused SmallPivot
finish second n f x (some s) = stepped_by n x (unscaled second n f s)

-- with the damped matrix a and the right side v
unfoldable pub solve_step : Bool → ℕ → List Float → List Float → List Float → Outcome
solve_step second n a v x =
    let f = scales n a in
    finish second n f x (cond second (solution_of n (scaled n f a) (divided n f v)) (solution_of n a v))

-- of m rows
unfoldable pub damped_step : (second : Bool) (m n : ℕ) (entry : ℕ → ℕ → Float) (residual : ℕ → Float) (lambda : Float) (x : List Float) → Outcome
damped_step second m n entry residual lambda x = solve_step second n (damped n lambda (jtj_of n entry m)) (jtr_of n entry residual m) x

-- The residuals of a set of parameters and their penalised sum, in the order of the reference, for both refinements.
-- A set is a list: a, i, raan0 and u0 of the orbit, then the biases of each pass. In the first refinement a pass has two, dt and
-- df, in the second four, dt, df0, df1 and df2. `none` is refusal 23.
use Rattle.std.specs.Prelude.{◌≡◌, refl, Bool, cond, List, [], ◌∷◌, ◌++◌, ℕ, zero, suc, ◌+◌, ◌*◌, length, get_or, Float, Result, Ok, Err}
use Rattle.std.proofs.Math.Option.{Option, none, some}
use Rattle.std.specs.Float.Ieee.{neg, of_bits, round}
use Rattle.float.specs.Constant.{decimal}
use Rattle.float.specs.Ops.{◌⊕◌, ◌⊖◌, ◌⊗◌, bits, at}
use Rattle.moment.specs.Time.{tau_millis_of}
use Rattle.orbit.specs.Doppler.{predicted_of, bias_of}
use Rattle.orbit.specs.declared.Elements.{Elements}
use Rattle.orbit.specs.declared.doppler.Station.{Station}
use Rattle.refusal.specs.declared.Refusal.{Refusal}
use Rattle.residuals.specs.Samples.{Passes, nanos_at, rotation_at}
use Rattle.residuals.specs.declared.Bias.{Bias}
use Rattle.residuals.specs.declared.Bias.TheVariants.{Constant, Polynomial}

-- ---- a set's parts

abbrev pub elements_of : List Float → Elements
elements_of x = record { a = at x 0; i = at x 1; raan0 = at x 2; u0 = at x 3 }

-- where the biases of pass p begin; of as many passes as there are, how many parameters a set has
unfoldable pub place_of : Bool → ℕ → ℕ
place_of second p = cond second (4 + 4 * p) (4 + 2 * p)

unfoldable pub dt_of : Bool → List Float → ℕ → Float
unfolding place_of
dt_of second x p = at x (place_of second p)

abbrev pub polynomial_of : List Float → ℕ → Bias
polynomial_of x p = Polynomial (record { 0 = at x (4 + 4 * p + 1); 1 = at x (4 + 4 * p + 2); 2 = at x (4 + 4 * p + 3) })

unfoldable pub pass_bias : Bool → List Float → ℕ → Bias
pass_bias second x p = cond second (polynomial_of x p) (Constant (at x (4 + 2 * p + 1)))

-- ---- a sample's residual

-- the bias so many seconds after a pass's first sample, and that within a metre of the satellite
abbrev pub bias_at : Bias → Float → Float
bias_at (Constant df) tau = df
bias_at (Polynomial d) tau = bias_of d tau

abbrev pub near_of : Bias → Float
near_of (Constant df) = df
near_of (Polynomial d) = d.0

module _ (g : Station) (times : List ℕ) where
  -- the shift of sample k, in a pass that begins with sample f: predict_frequency, or predict_frequency_poly
  unfoldable pub prediction_of : Elements → Float → Bias → ℕ → ℕ → Result Float Refusal
  prediction_of e dt b f k =
      let t = get_or times k 0 in
      predicted_of g e (nanos_at t) (rotation_at t) dt (near_of b) (bias_at b (tau_millis_of (nanos_at t) (nanos_at (get_or times f 0))))

abbrev pub shift_of : Result Float Refusal → Option Float
shift_of (Ok v) = some v
shift_of (Err r) = none

abbrev pub each : {A B : Type 0} → (A → B) → Option A → Option B
each f none = none
each f (some a) = some (f a)

module _ (second : Bool) (g : Station) (d : Passes) (x : List Float) where
  -- of sample k in pass p, which begins with sample f: its frequency less centre and shift
  unfoldable pub residual : ℕ → ℕ → ℕ → Option (List Float)
  residual p f k =
      each (λ v. (at d.freqs k ⊖ (g.center_freq ⊕ v)) ∷ [])
      (shift_of (prediction_of g d.times (elements_of x) (dt_of second x p) (pass_bias second x p) f k))

-- ---- the residuals of all samples, each given by its pass p, the place f of the pass's first sample, and its own place k

-- one list after the other; refused where either is
infixr 60 ◌then◌
abbrev pub ◌then◌ : {A : Type 0} → Option (List A) → Option (List A) → Option (List A)
◌then◌ none ys = none
◌then◌ (some xs) ys = each (xs ++◌) ys

module _ (residual : ℕ → ℕ → ℕ → Option (List Float)) where
  -- of n samples of pass p, from place k on
  unfoldable pub samples : ℕ → ℕ → ℕ → ℕ → Option (List Float)
  samples p f k zero = some []
  samples p f k (suc n) = residual p f k then samples p f (k + 1) n

  -- of the passes from pass p on, whose samples begin at place k
  unfoldable pub passes : ℕ → ℕ → List ℕ → Option (List Float)
  passes p k [] = some []
  passes p k (n ∷ ns) = samples p k k n then passes (p + 1) (k + n) ns

-- ---- penalties: 10 dt, 100 df1 and 10000 df2

unfoldable pub dt_weight : Float
dt_weight = decimal 10 0

pub dt_weight_bits : bits 0x4024000000000000 ≡ dt_weight
unfolding dt_weight of_bits round
dt_weight_bits = refl

unfoldable pub df1_weight : Float
df1_weight = decimal 100 0

pub df1_weight_bits : bits 0x4059000000000000 ≡ df1_weight
unfolding df1_weight of_bits round
df1_weight_bits = refl

unfoldable pub df2_weight : Float
df2_weight = decimal 10000 0

pub df2_weight_bits : bits 0x40c3880000000000 ≡ df2_weight
unfolding df2_weight of_bits round
df2_weight_bits = refl

-- of n passes from pass p on
unfoldable pub dt_penalties : Bool → List Float → ℕ → ℕ → List Float
dt_penalties second x p zero = []
dt_penalties second x p (suc n) = (dt_of second x p ⊗ dt_weight) ∷ dt_penalties second x (p + 1) n

unfoldable pub drift_penalties : List Float → ℕ → ℕ → List Float
drift_penalties x p zero = []
drift_penalties x p (suc n) = (at x (4 + 4 * p + 2) ⊗ df1_weight) ∷ (at x (4 + 4 * p + 3) ⊗ df2_weight) ∷ drift_penalties x (p + 1) n

-- the second refinement penalises the drifts too
unfoldable pub penalties : Bool → List Float → ℕ → List Float
penalties second x n = dt_penalties second x 0 n ++ cond second (drift_penalties x 0 n) []

-- ---- the whole

-- how many residuals S samples in P passes have
unfoldable pub rows_of : Bool → ℕ → ℕ → ℕ
rows_of second s p = cond second (s + 3 * p) (s + p)

unfoldable pub residuals : Bool → Station → Passes → List Float → Option (List Float)
residuals second g d x = passes (residual second g d x) 0 0 d.counts then some (penalties second x (length d.counts))

-- the squares added in order; Rust's sum starts from −0.0
unfoldable pub sum_squares : Float → List Float → Float
sum_squares sum [] = sum
sum_squares sum (r ∷ rs) = sum_squares (sum ⊕ r ⊗ r) rs

abbrev pub sum_of : List Float → Float
sum_of r = sum_squares (neg (bits 0)) r

-- what a trial compares
unfoldable pub penalised_sum : Bool → Station → Passes → List Float → Option Float
penalised_sum second g d x = each sum_of (residuals second g d x)

-- A sum reads of a set the orbit's four numbers and the biases of the passes that there are, no other place: so the set that a
-- caller holds has the sum of the book's. Assumes nothing.
use mathlib.Core.Path.{◌≡◌, refl, ap, ap₂, ◌∙◌}
use mathlib.Core.Bool.{true}
use mathlib.Core.Logic.{⊎_elim}
use mathlib.Core.List.{List, [], ◌∷◌, ◌++◌}
use mathlib.Core.Option.{Option}
use Prim.Native.Nat.{ℕ, zero, suc, ◌+◌, ◌*◌, ◌≤◌, ◌<◌}
use native.Mathlib.Nat.{eq-or-lt_of_le, le_of_suc-le-suc, not-suc-le-zero}
use native.Mathlib.Omega.{arith}
use lib.ListN.{length, drop, get_or-append}
use lib.Seq.{get_or_at}
use lib.Ieee.{Float, nan}
use Rattle.float.specs.Ops.{at}
use Rattle.residuals.specs.Samples.{Passes}
use Rattle.residuals.specs.Residuals.{elements_of, place_of, dt_of, pass_bias, residual, samples, passes, ◌then◌, dt_penalties, drift_penalties, penalties, residuals, each, sum_of, penalised_sum}
use Rattle.orbit.specs.declared.doppler.Station.{Station}
use Rattle.solution.specs.declared.SolvedOrbit.{SolvedOrbit}
use Rattle.fit.specs.Answer.{biases, Outputs, over}
use Rattle.fit.proofs.Laws.{length_biases}
use Rattle.determination.specs.Demand.{biases_from, returned_set}

-- ---- residuals of two sets that agree on n passes

pub record Agree (n : ℕ) (x y : List Float) : Type 0 where
  pub each : (k : ℕ) → k < 4 + 4 * n → at x k ≡ at y k

samples_same : (r q : ℕ → ℕ → ℕ → Option (List Float)) (p f : ℕ) → ((k : ℕ) → r p f k ≡ q p f k) → (k n : ℕ) → samples r p f k n ≡ samples q p f k n
unfolding samples
samples_same r q p f e k zero = refl
samples_same r q p f e k (suc n) = ap₂ (λ (a b : Option (List Float)). a then b) (e k) (samples_same r q p f e (k + 1) n)

passes_same : (r q : ℕ → ℕ → ℕ → Option (List Float)) (m : ℕ) → ((p f k : ℕ) → p < m → r p f k ≡ q p f k) → (p k : ℕ) (ns : List ℕ) → p + length ns ≤ m
    → passes r p k ns ≡ passes q p k ns
unfolding passes
passes_same r q m e p k [] h = refl
passes_same r q m e p k (n ∷ ns) h =
    ap₂ (λ (a b : Option (List Float)). a then b) (samples_same r q p k (λ i. e p k i (omega arith)) k n) (passes_same r q m e (p + 1) (k + n) ns (omega arith))

module _ (n : ℕ) (x y : List Float) (s : Agree n x y) where
  elements_same : elements_of x ≡ elements_of y
  elements_same =
      let a = s.each 0 (omega arith) in
      let b = s.each 1 (omega arith) in
      let c = s.each 2 (omega arith) in
      let d = s.each 3 (omega arith) in
      rw (a, b, c, d)

  dt_same : (p : ℕ) → p < n → dt_of true x p ≡ dt_of true y p
  unfolding dt_of place_of
  dt_same p h = s.each (4 + 4 * p) (omega arith)

  biases_same : (p : ℕ) → p < n → pass_bias true x p ≡ pass_bias true y p
  unfolding pass_bias
  biases_same p h =
      let b = s.each (4 + 4 * p + 1) (omega arith) in
      let c = s.each (4 + 4 * p + 2) (omega arith) in
      let d = s.each (4 + 4 * p + 3) (omega arith) in
      rw (b, c, d)

  residual_same : (g : Station) (d : Passes) (p f k : ℕ) → p < n → residual true g d x p f k ≡ residual true g d y p f k
  unfolding residual
  residual_same g d p f k h = rw (elements_same, dt_same p h, biases_same p h)

  dt_penalties_same : (p m : ℕ) → p + m ≤ n → dt_penalties true x p m ≡ dt_penalties true y p m
  unfolding dt_penalties
  dt_penalties_same p zero h = refl
  dt_penalties_same p (suc m) h = rw (dt_same p (omega arith), dt_penalties_same (p + 1) m (omega arith))

  drift_penalties_same : (p m : ℕ) → p + m ≤ n → drift_penalties x p m ≡ drift_penalties y p m
  unfolding drift_penalties
  drift_penalties_same p zero h = refl
  drift_penalties_same p (suc m) h =
      let c = s.each (4 + 4 * p + 2) (omega arith) in
      let d = s.each (4 + 4 * p + 3) (omega arith) in
      rw (c, d, drift_penalties_same (p + 1) m (omega arith))

-- ---- so their residuals and sums are equal
pub residuals_same : (g : Station) (d : Passes) (x y : List Float) → Agree (length d.counts) x y → residuals true g d x ≡ residuals true g d y
unfolding residuals penalties
residuals_same g d x y s =
    let n = length d.counts in
    rw (
      passes_same (residual true g d x) (residual true g d y) n (residual_same n x y s g d) 0 0 d.counts (omega arith),
      dt_penalties_same n x y s 0 n (omega arith),
      drift_penalties_same n x y s 0 n (omega arith),
    )

pub sum_same : (g : Station) (d : Passes) (x y : List Float) → Agree (length d.counts) x y → penalised_sum true g d x ≡ penalised_sum true g d y
unfolding penalised_sum
sum_same g d x y s = ap (each sum_of) (residuals_same g d x y s)

-- ---- the returned set

-- n numbers of s from place k on
abbrev run : List Float → ℕ → ℕ → List Float
run s k zero = []
run s k (suc n) = at s k ∷ run s (k + 1) n

run_at : (s : List Float) (k n i : ℕ) → i < n → at (run s k n) i ≡ at s (k + i)
run_at s k zero i h = absurd (not-suc-le-zero h)
run_at s k (suc n) zero h = ap (at s) (omega arith)
run_at s k (suc n) (suc i) h = run_at s (k + 1) n i (le_of_suc-le-suc h) ∙ ap (at s) (omega arith)

-- the slices hold the biases of n passes of s
pub record Holds (s : List Float) (n : ℕ) (w : Outputs) : Type 0 where
  pub dt : (p : ℕ) → p < n → at w.dts p ≡ at s (4 + 4 * p)
  pub df : (p : ℕ) → p < n → at w.dfs p ≡ at s (4 + 4 * p + 1)
  pub df1 : (p : ℕ) → p < n → at w.df1s p ≡ at s (4 + 4 * p + 2)
  pub df2 : (p : ℕ) → p < n → at w.df2s p ≡ at s (4 + 4 * p + 3)

biases_run : (s : List Float) (n : ℕ) (w : Outputs) → Holds s n w → (p m : ℕ) → p + m ≤ n → biases_from w p m ≡ run s (4 + 4 * p) (4 * m)
unfolding biases_from
biases_run s n w h p zero l = refl
biases_run s n w h p (suc m) l =
    let a = h.dt p (omega arith) in
    let b = h.df p (omega arith) in
    let c : at w.df1s p ≡ at s (4 + 4 * p + 1 + 1) = h.df1 p (omega arith) ∙ ap (at s) (omega arith) in
    let d : at w.df2s p ≡ at s (4 + 4 * p + 1 + 1 + 1) = h.df2 p (omega arith) ∙ ap (at s) (omega arith) in
    let t : biases_from w (p + 1) m ≡ run s (4 + 4 * p + 1 + 1 + 1 + 1) (4 * m) =
    biases_run s n w h (p + 1) m (omega arith) ∙ ap (λ (k : ℕ). run s k (4 * m)) (omega arith) in
    let e : 4 * suc m ≡ suc (suc (suc (suc (4 * m)))) = omega arith in
    rw (a, b, c, d, t, e)

-- an orbit and slices with the numbers of s, put together again
module _ (s : List Float) (n : ℕ) (o : SolvedOrbit) (w : Outputs) (h : Holds s n w) (orbit : o.a ∷ o.i ∷ o.raan0 ∷ o.u0 ∷ [] ≡ run s 0 4) where
  returned_run : returned_set o w n ≡ run s 0 (4 + 4 * n)
  unfolding returned_set
  returned_run =
      let e : 4 + 4 * n ≡ suc (suc (suc (suc (4 * n)))) = omega arith in
      rw e (ap₂ (λ (a b : List Float). a ++ b) orbit (biases_run s n w h 0 n (omega arith)))

  pub returned_agrees : Agree n (returned_set o w n) s
  returned_agrees =
      record { each = λ k l. ap (λ (z : List Float). at z k) returned_run ∙ run_at s 0 (4 + 4 * n) k l ∙ ap (at s) (omega arith) }

-- ---- what stands in the slices

biases_at_lem : (k : ℕ) (s : List Float) (n p : ℕ) → p < n → at (biases k s n) p ≡ at s (4 + 4 * p + k)
unfolding biases
biases_at_lem k s zero p h = absurd (not-suc-le-zero h)
biases_at_lem k s (suc n) p h = ⊎_elim
    (λ e. rw e (get_or_at (biases k s n) (at s (4 + 4 * n + k)) [] nan n (length_biases k s n)))
    (λ l. get_or-append (biases k s n) (at s (4 + 4 * n + k) ∷ []) nan p (rw (length_biases k s n) l) ∙ biases_at_lem k s n p l)
    (eq-or-lt_of_le (le_of_suc-le-suc h))

-- written over the first places
pub over_at : (k : ℕ) (s : List Float) (n : ℕ) (old : List Float) (p : ℕ) → p < n → at (over (biases k s n) old) p ≡ at s (4 + 4 * p + k)
over_at k s n old p h = get_or-append (biases k s n) (drop (length (biases k s n)) old) nan p (rw (length_biases k s n) h) ∙ biases_at_lem k s n p h

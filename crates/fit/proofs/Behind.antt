-- The sets of a book are lists of 68 numbers, the port's storage. Behind the parameters of the passes that there are, they hold zeros:
-- the starting set has zeros there, and a step moves parameters alone. Assumes nothing.
use mathlib.Core.Path.{◌≡◌, refl, ◌∙◌}
use mathlib.Core.Bool.{Bool, true, false, cond}
use mathlib.Core.List.{List, [], ◌∷◌}
use mathlib.Core.Option.{Option, none, some}
use Prim.Native.Nat.{ℕ, zero, suc, ◌≤◌, ◌<◌}
use native.Mathlib.Nat.{le_of_suc-le-suc, not-suc-le-zero}
use native.Mathlib.Omega.{arith}
use lib.IntN.{ℤ}
use lib.ListN.{length, drop, set, replicate}
use lib.Ieee.{Float}
use Rattle.refusal.specs.declared.Refusal.{Refusal}
use Rattle.refusal.specs.declared.Refusal.TheVariants.{FarMoment}
use Rattle.float.specs.Ops.{bits}
use Rattle.loops.proofs.Laws.{for_ind}
use Rattle.orbit.specs.declared.Elements.{Elements}
use Rattle.orbit.specs.declared.doppler.Station.{Station}
use Rattle.residuals.specs.Samples.{Passes}
use Rattle.residuals.specs.Residuals.{place_of, rows_of, residuals, penalised_sum}
use Rattle.linear.specs.Elimination.{solution_of}
use Rattle.normal.specs.Normal.{jtj_of, jtr_of}
use Rattle.normal.specs.Step.{Outcome, next, refused, damped, scales, scaled, divided, subtract_at, subtracted, held, unscaled, finish, solve_step, damped_step}
use Rattle.refine.specs.Jacobian.{eps_of, residual_at, entry_of, any_far}
use Rattle.refine.specs.Advance.{advance_of}
use Rattle.refine.proofs.Advances.{places_four}
use Rattle.book.proofs.Sets.{Sets, book_sets}
use Rattle.start.specs.Start.{with_elements, put_dt, starting_set}
use Rattle.fit.specs.Fit.{Observations, observed_passes, refined}

-- zeros from place n on, in a set of 68
pub record Behind (n : ℕ) (x : List Float) : Type 0 where
  pub zeros : drop n x ≡ drop n (replicate 68 (bits 0))

drop_set : (x : List Float) (k n : ℕ) (v : Float) → k < n → drop n (set x k v) ≡ drop n x
drop_set x k zero v h = absurd (not-suc-le-zero h)
drop_set [] k (suc n) v h = refl
drop_set (a ∷ x) zero (suc n) v h = refl
drop_set (a ∷ x) (suc k) (suc n) v h = drop_set x k n v (le_of_suc-le-suc h)

-- ---- a step

subtracted_behind : (n : ℕ) (delta x : List Float) → drop n (subtracted n delta x) ≡ drop n x
unfolding subtracted subtract_at
subtracted_behind n delta x =
    for_ind (subtract_at delta) (λ i y. drop n y ≡ drop n x) 0 n x (omega arith) refl (λ j y l h p. drop_set y j n _ h ∙ p)

held_behind : (n : ℕ) (x : List Float) → 4 ≤ n → drop n (held x) ≡ drop n x
unfolding held
held_behind n x h = drop_set (set x 0 _) 1 n _ (omega arith) ∙ drop_set x 0 n _ (omega arith)

finish_behind : (second : Bool) (n : ℕ) (f x : List Float) (t : Option (List Float)) (y : List Float) (size : Float) → 4 ≤ n → finish second n f x t ≡ next y size
    → drop n y ≡ drop n x
finish_behind second n f x none y size h e = cc
finish_behind second n f x (some s) y size h e =
    let delta = unscaled second n f s in
    let same : held (subtracted n delta x) ≡ y = cc in
    rw (← same) (held_behind n (subtracted n delta x) h ∙ subtracted_behind n delta x)

solve_behind : (second : Bool) (n : ℕ) (a v x y : List Float) (size : Float) → 4 ≤ n → solve_step second n a v x ≡ next y size → drop n y ≡ drop n x
unfolding solve_step
solve_behind second n a v x y size h e =
    let f = scales n a in
    finish_behind second n f x (cond second (solution_of n (scaled n f a) (divided n f v)) (solution_of n a v)) y size h e

damped_behind : (second : Bool) (m n : ℕ) (entry : ℕ → ℕ → Float) (residual : ℕ → Float) (lambda : Float) (x y : List Float) (size : Float) → 4 ≤ n
    → damped_step second m n entry residual lambda x ≡ next y size → drop n y ≡ drop n x
unfolding damped_step
damped_behind second m n entry residual lambda x y size h e = solve_behind second n (damped n lambda (jtj_of n entry m)) (jtr_of n entry residual m) x y size h e

not_far : (far : Bool) (k : Refusal) (o : Outcome) (y : List Float) (size : Float) → cond far (refused k) o ≡ next y size → o ≡ next y size
not_far true k o y size e = cc
not_far false k o y size e = e

module _ (second : Bool) (g : Station) (d : Passes) (lambda : Float) (x y : List Float) (size : Float) where
  abbrev n : ℕ
  n = place_of second (length d.counts)

  advance_behind : advance_of second g d lambda x ≡ next y size → drop n y ≡ drop n x
  unfolding advance_of
  advance_behind e =
      let eps = eps_of second in
      let res = residuals second g d in
      let m = rows_of second (length d.times) (length d.counts) in
      damped_behind second m n (entry_of eps res x) (residual_at res x) lambda x y size (places_four second (length d.counts))
      (not_far (any_far eps res x n 0) FarMoment (damped_step second m n (entry_of eps res x) (residual_at res x) lambda x) y size e)

-- ---- the starting set

place_grows : (second : Bool) (p n : ℕ) → p < n → place_of second p < place_of second n
unfolding place_of
place_grows true p n h = omega arith
place_grows false p n h = omega arith

elements_behind : (e : Elements) (n : ℕ) → 4 ≤ n → Behind n (with_elements e)
unfolding with_elements
elements_behind e zero h = absurd (omega arith)
elements_behind e (suc zero) h = absurd (omega arith)
elements_behind e (suc (suc zero)) h = absurd (omega arith)
elements_behind e (suc (suc (suc zero))) h = absurd (omega arith)
elements_behind e (suc (suc (suc (suc n)))) h = record { zeros = refl }

start_behind : (counts : List ℕ) (times : List ℤ) (freqs : List Float) (g : Station) (e : Elements) (second : Bool)
    → Behind (place_of second (length counts)) (starting_set counts times freqs g e second)
unfolding starting_set put_dt
start_behind counts times freqs g e second =
    record {
      zeros = for_ind (put_dt counts times freqs g e second) (λ i y. drop (place_of second (length counts)) y ≡ drop (place_of second (length counts)) (with_elements e)) 0 (length counts)
          (with_elements e) (omega arith) refl (λ j y l h p. drop_set y (place_of second j) (place_of second (length counts)) _ (place_grows second j (length counts) h) ∙ p)
          ∙ (elements_behind e (place_of second (length counts)) (places_four second (length counts))).zeros;
    }

-- ---- every set of a refinement's book

pub behind : (second enough : Bool) (n : ℕ) (e : Elements) (x : Observations) → Sets (Behind (place_of second (length x.counts))) (refined second enough n e x)
unfolding refined
behind second enough n e x =
    book_sets (Behind (place_of second (length x.counts))) (penalised_sum second x.station (observed_passes x)) (advance_of second x.station (observed_passes x)) enough
    (λ lambda y z size h s. record { zeros = advance_behind second x.station (observed_passes x) lambda y z size s ∙ h.zeros })
    _ (start_behind x.counts x.times x.freqs x.station e second) n

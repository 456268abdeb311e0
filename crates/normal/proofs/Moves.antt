-- What the calls of a step make of the solver's answer. Assumes nothing.
use mathlib.Core.Path.{◌≡◌, refl, sym, ap, ◌∙◌}
use mathlib.Core.Bool.{Bool, true, false, cond}
use mathlib.Core.List.{List, ◌++◌, append-nil}
use mathlib.Core.Option.{Option, none, some}
use Prim.Native.Nat.{ℕ, ◌+◌, ◌*◌, ◌≤◌}
use native.Mathlib.Omega.{arith}
use lib.ListN.{length, drop}
use lib.Seq.{drop-length}
use lib.Ieee.{Float}
use Rattle.float.specs.Ops.{at}
use Rattle.loops.specs.Loop.{is_some}
use Rattle.std.proofs.Common.{Some, None, Result, Ok, Err}
use Rattle.refusal.specs.Refusals.{answer}
use Rattle.refusal.specs.declared.Refusal.{Refusal}
use Rattle.refusal.specs.declared.Refusal.TheVariants.{SmallPivot}
use Rattle.linear.specs.Elimination.{solution_of}
use Rattle.linear.specs.Answer.{Solves, out_of}
use Rattle.linear.proofs.Answers.{worked}
use Rattle.normal.specs.Normal.{Grid, table_entry, jtj_of, jtr_of}
use Rattle.normal.specs.Step.{Outcome, next, refused, damped, scales, scaled, divided, subtracted, held, largest_step, stepped_by, finish, solve_step, damped_step}

-- x moved to x₁, held to x₂, and the step's size
pub taken : (n : ℕ) (delta x x₁ x₂ : List Float) (size : Float) → x₁ ≡ subtracted n delta x → x₂ ≡ held x₁ → size ≡ largest_step n x₂ delta → next x₂ size ≡ stepped_by n x delta
taken n delta x x₁ x₂ size e₁ e₂ es = rw (es, e₂, e₁)

module _ (n : ℕ) (a v o o' s s' : List Float) (r : Result (Unit {0}) Refusal) (grid : Grid n n a) (ev : length v ≡ n) (eo : length o ≡ n) (room : n * (n + 1) ≤ length s)
    (solves : Solves n a v o o' s s' r) where
  answered : r ≡ answer (cond (is_some (solution_of n a v)) None (Some SmallPivot)) tt
  answered = rw (worked n a v o s ev grid.full grid.narrow (omega arith) room) at solves.answer

  written : o' ≡ out_of (cond (is_some (solution_of n a v)) None (Some SmallPivot)) (solution_of n a v) n o
  written = rw (worked n a v o s ev grid.full grid.narrow (omega arith) room) at solves.out

  -- nothing of o is left behind the solution
  found : r ≡ Ok tt → solution_of n a v ≡ some o'
  found e = go (solution_of n a v) answered written
    where
      go : (t : Option (List Float)) → r ≡ answer (cond (is_some t) None (Some SmallPivot)) tt → o' ≡ out_of (cond (is_some t) None (Some SmallPivot)) t n o → t ≡ some o'
      go none q p = cc
      go (some y) q p = ap some (sym (p ∙ ap (y ++◌) (ap (λ (j : ℕ). drop j o) (sym eo) ∙ drop-length o) ∙ append-nil y))

  pub no_pivot : (second : Bool) (f x : List Float) (e : Refusal) → r ≡ Err e → refused SmallPivot ≡ finish second n f x (solution_of n a v)
  no_pivot second f x k e = go (solution_of n a v) answered
    where
      go : (t : Option (List Float)) → r ≡ answer (cond (is_some t) None (Some SmallPivot)) tt → refused SmallPivot ≡ finish second n f x t
      go none q = refl
      go (some y) q = cc

  -- the new set y, from x by the solution divided by the scales, or by the solution
  module _ (second : Bool) (f delta x y : List Float) (size : Float) (i j : ℕ) (ei : i ≡ n) (ej : j ≡ n) (e : r ≡ Ok tt) (em : next y size ≡ stepped_by i x delta) where
    pub moved_scaled : second ≡ true → delta ≡ divided j f o' → next y size ≡ finish second n f x (solution_of n a v)
    moved_scaled es ed = em ∙ rw (found e, es, ed, ei, ej)

    pub moved_plain : second ≡ false → delta ≡ o' → next y size ≡ finish second n f x (solution_of n a v)
    moved_plain es ed = em ∙ rw (found e, es, ed, ei)

-- the scales f of a, the system a' x = v' divided by them, and what its solution led to
pub through_scales : (second : Bool) (n : ℕ) (a a' v v' f x : List Float) (w : Outcome) → second ≡ true → f ≡ scales n a → a' ≡ scaled n f a → v' ≡ divided n f v
    → w ≡ finish second n f x (solution_of n a' v') → w ≡ solve_step second n a v x
unfolding solve_step
through_scales second n a a' v v' f x w es ef ea ev e = rw (e, ea, ev, ef, es)

-- without scales, whatever f holds
pub unscaled_same : (n : ℕ) (f g x : List Float) (t : Option (List Float)) → finish false n f x t ≡ finish false n g x t
unscaled_same n f g x none = refl
unscaled_same n f g x (some s) = refl

pub through_plain : (second : Bool) (n : ℕ) (a v f x : List Float) (w : Outcome) → second ≡ false → w ≡ finish second n f x (solution_of n a v) → w ≡ solve_step second n a v x
unfolding solve_step
through_plain second n a v f x w es e = rw es (rw es at e ∙ unscaled_same n f (scales n a) x (solution_of n a v))

-- the sums a and v of the table t, a damped to a', and what the solution led to
pub through_sums : (second : Bool) (m n : ℕ) (lambda : Float) (t r a a' v x : List Float) (w : Outcome) → a ≡ jtj_of n (table_entry n t) m → v ≡ jtr_of n (table_entry n t) (at r) m
    → a' ≡ damped n lambda a → w ≡ solve_step second n a' v x → w ≡ damped_step second m n (table_entry n t) (at r) lambda x
unfolding damped_step
through_sums second m n lambda t r a a' v x w ea ev ed e = rw (e, ed, ea, ev)

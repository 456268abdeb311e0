-- `eliminate` meets its contract. Assumes nothing.
use Rattle.float.specs.Ops.{bits}
use mathlib.Core.Path.{◌≡◌}
use mathlib.Core.List.{List}
use Prim.Native.Nat.{ℕ}
use lib.ListN.{length, replicate}
use lib.Ieee.{Float}
use Rattle.std.proofs.Common.{Ok, Err}
use Rattle.std.proofs.lemmas.Result.{err_from_is_err_and}
use Rattle.loops.specs.Loop.{for, rev}
use Rattle.refusal.specs.declared.Refusal.{Refusal}
use Rattle.linear.specs.Elimination.{Sized, forward_elimination, substitute_row, back_substitution, augment_row, augmented, solution_of}
use Rattle.linear.specs.Answer.{Reduces, Eliminates}
use Rattle.linear.proofs.eliminate.Goals as goal

-- What the calls ensure: the room a is cleared to z, loaded to l and eliminated to f, or refused; the solution's s is cleared to s₁ and worked out, s₂.
module _ (n : ℕ) (m v a z l f s : List Float) (sized : Sized n a) (ez : z ≡ replicate (length a) (bits 0)) (el : l ≡ for 0 n (augment_row n m v) z) where
  loaded : augmented n m v ≡ l
  unfolding augmented
  loaded = rw (el, ez, sized.full)

  singular : (e : Refusal) → Reduces (Err e) f (forward_elimination n l) → Eliminates (Err e) s s (solution_of n m v)
  unfolding solution_of
  singular e r =
      let q = r.left.made in
      record { answer = rw (loaded, ← q) (rw (← q) at r.answer); left = record { said = rw (loaded, ← q); held = rw (loaded, ← q) } }

  found : (s₁ s₂ : List Float) (u : Unit {0}) → Reduces (Ok u) f (forward_elimination n l) → length s ≡ n → s₁ ≡ replicate (length s) (bits 0) → s₂ ≡ rev n (substitute_row n f) s₁
      → Eliminates (Ok tt) s s₂ (solution_of n m v)
  unfolding solution_of back_substitution
  found s₁ s₂ u r len e₁ e₂ =
      let q = r.left.made in
      record { answer = rw (loaded, ← q); left = record { said = rw (loaded, ← q); held = rw (loaded, ← q, e₂, e₁, len) } }

pub returns-in_err-forward_elimination : goal.returns-in_err-forward_elimination
returns-in_err-forward_elimination c =
    let same = c.augment.ensures.size in
    let p = err_from_is_err_and c.from_residual.result c.from_residual.ensures.1 in
    rw (p.1, p.2) (singular _ _ _ _ _ _ _ _ c.requires.0 c.clear.ensures c.augment.ensures.after _ (rw same at c.in_err-forward_elimination.ensures.after))

pub returns : goal.returns
returns c =
    let same = c.augment.ensures.size in
    let solved = rw (c.forward_elimination.ensures.size, same) at c.back_substitution.ensures in
    found _ _ _ _ _ _ _ _ c.requires.0 c.clear.ensures c.augment.ensures.after _ _ _ (rw same at c.in_ok-forward_elimination.ensures.after) c.requires.3 c.clear-2.ensures solved

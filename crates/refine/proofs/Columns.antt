-- What the calls of `jacobian_column` make of a column, and the loop over columns, which the first refusal ends. Assumes nothing.
use mathlib.Core.Path.{◌≡◌, refl}
use mathlib.Core.List.{List}
use mathlib.Core.Option.{Option, none, some}
use Prim.Native.Nat.{ℕ, ◌+◌, ◌≤◌, ◌<◌}
use lib.ListN.{take}
use lib.Ieee.{Float}
use Rattle.std.specs.Bool.{⊤}
use Rattle.std.proofs.Common.{Ok, Err}
use Rattle.refusal.specs.declared.Refusal.{Refusal}
use Rattle.loops.specs.Loop.{for}
use Rattle.loops.proofs.Laws.{Tries, again_try, refused, ends_try, loops}
use Rattle.residuals.specs.Answers.{Filled}
use Rattle.residuals.proofs.Laws.{far_filled, all_filled, refused_far}
use Rattle.refine.specs.Jacobian.{perturbed_of, put_entry, column_of}

module _ (eps : ℕ → Float) (res : List Float → Option (List Float)) (x r : List Float) (m n k : ℕ) (t y : List Float) (ε : Float) (eε : ε ≡ eps k) (ey : y ≡ perturbed_of x k ε) where
  pub column_far : (e : Refusal) (l s : List Float) → Filled (Err e) l (res y) → Filled (Err e) s (column_of eps res x r m n k t)
  unfolding column_of
  column_far e l s f =
      let z : none ≡ res y = f.written in
      far_filled (rw (← eε, ← ey, ← z) refl) (refused_far f)

  -- j numbers of the column c were written, which are those of the m rows
  pub column_put : (u : ⊤) (j : ℕ) (c s : List Float) → Filled (Ok u) (take j c) (res y) → m ≡ j → s ≡ for 0 m (put_entry n ε k r (take m c)) t
      → Filled (Ok tt) s (column_of eps res x r m n k t)
  unfolding column_of
  column_put u j c s f w p =
      let z : some (take j c) ≡ res y = f.written in
      all_filled (rw (← eε, ← ey, ← z, p, w) refl)

-- ---- for k in 0..n { f(k, s)?; }

pub again_fill : {a b : ℕ} {f : ℕ → List Float → Option (List Float)} {s s' : List Float} {t : Option (List Float)} {u : ⊤}
    → a < b → Tries a b f s t → Filled (Ok u) s' (f a s) → Tries (a + 1) b f s' t
again_fill h l p = again_try h l (record { made = p.written }) refl

pub refused_fill : {a b : ℕ} {f : ℕ → List Float → Option (List Float)} {s s' s'' : List Float} {t : Option (List Float)} {e : Refusal}
    → a < b → Tries a b f s t → Filled (Err e) s' (f a s) → Filled (Err e) s'' t
refused_fill {s' = s'} {s'' = s''} h l p = far_filled (refused {s' = s'} {s'' = s''} h l (record { made = p.written }) refl).made (refused_far p)

pub ends_fill : {a b : ℕ} {f : ℕ → List Float → Option (List Float)} {s : List Float} {t : Option (List Float)} → b ≤ a → Tries a b f s t → Filled (Ok tt) s t
ends_fill h l = all_filled (ends_try h l).made

pub ruleset columns = (loops, again_fill, refused_fill, ends_fill)

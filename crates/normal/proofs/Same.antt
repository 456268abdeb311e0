-- Two Jacobians with the same entries give the same step. Assumes nothing.
use mathlib.Core.Path.{◌≡◌, refl, ap, ◌∙◌}
use mathlib.Core.Bool.{Bool}
use mathlib.Core.List.{List}
use Prim.Native.Nat.{ℕ, zero, suc, ◌+◌, ◌-◌, ◌<◌, ◌≤◌}
use native.Mathlib.Nat.{le_refl}
use native.Mathlib.Omega.{arith}
use lib.Ieee.{Float}
use Rattle.loops.specs.Loop.{turns, for}
use Rattle.normal.specs.Normal.{add_product, add_products, add_row, add_right, add_rights, jtj_of, jtr_of}
use Rattle.normal.specs.Step.{damped_step}

-- a loop whose bodies agree where it runs
turns_cong : {S : Type 0} (f h : ℕ → S → S) (k i b : ℕ) (s : S) → i + k ≡ b → ((j : ℕ) (u : S) → i ≤ j → j < b → f j u ≡ h j u) → turns f k i s ≡ turns h k i s
unfolding turns
turns_cong f h zero i b s e same = refl
turns_cong f h (suc k) i b s e same =
    ap (turns f k (i + 1)) (same i s (le_refl i) (omega arith)) ∙ turns_cong f h k (i + 1) b (h i s) (omega arith) (λ j u l q. same j u (omega arith) q)

for_cong : {S : Type 0} (f h : ℕ → S → S) (n : ℕ) (s : S) → ((j : ℕ) (u : S) → j < n → f j u ≡ h j u) → for 0 n f s ≡ for 0 n h s
unfolding for
for_cong f h n s same = turns_cong f h (n - 0) 0 n s (omega arith) (λ j u l q. same j u q)

module _ (m n : ℕ) (E F : ℕ → ℕ → Float) (R Q : ℕ → Float) (same : (row c : ℕ) → row < m → c < n → E row c ≡ F row c) (residuals : (row : ℕ) → row < m → R row ≡ Q row) where
  product_same : (v : Float) (row c1 c2 : ℕ) (a : List Float) → row < m → c2 < n → add_product n E v row c1 c2 a ≡ add_product n F v row c1 c2 a
  unfolding add_product
  product_same v row c1 c2 a h k = rw (same row c2 h k)

  products_same : (row c1 : ℕ) (a : List Float) → row < m → c1 < n → add_products n E row c1 a ≡ add_products n F row c1 a
  unfolding add_products
  products_same row c1 a h k =
      ap (λ (v : Float). for 0 n (add_product n E v row c1) a) (same row c1 h k)
      ∙ for_cong (add_product n E (F row c1) row c1) (add_product n F (F row c1) row c1) n a (λ c2 u l. product_same (F row c1) row c1 c2 u h l)

  row_same : (row : ℕ) (a : List Float) → row < m → add_row n E row a ≡ add_row n F row a
  unfolding add_row
  row_same row a h = for_cong (add_products n E row) (add_products n F row) n a (λ c1 u l. products_same row c1 u h l)

  right_same : (row c1 : ℕ) (v : List Float) → row < m → c1 < n → add_right n E R row c1 v ≡ add_right n F Q row c1 v
  unfolding add_right
  right_same row c1 v h k = rw (same row c1 h k, residuals row h)

  rights_same : (row : ℕ) (v : List Float) → row < m → add_rights n E R row v ≡ add_rights n F Q row v
  unfolding add_rights
  rights_same row v h = for_cong (add_right n E R row) (add_right n F Q row) n v (λ c1 u l. right_same row c1 u h l)

  jtj_same : jtj_of n E m ≡ jtj_of n F m
  unfolding jtj_of
  jtj_same = for_cong (add_row n E) (add_row n F) m _ (λ row u l. row_same row u l)

  jtr_same : jtr_of n E R m ≡ jtr_of n F Q m
  unfolding jtr_of
  jtr_same = for_cong (add_rights n E R) (add_rights n F Q) m _ (λ row u l. rights_same row u l)

  pub step_same : (second : Bool) (lambda : Float) (x : List Float) → damped_step second m n E R lambda x ≡ damped_step second m n F Q lambda x
  unfolding damped_step
  step_same second lambda x = rw (jtj_same, jtr_same)

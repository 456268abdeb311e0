-- The normal equations JᵀJ δ = Jᵀr of a Jacobian given by its entries, summed row by row in the reference's order. Matrices are
-- flat, row by row.
use Rattle.std.specs.Prelude.{◌≡◌, List, ℕ, ◌+◌, ◌*◌, ◌≤◌, length, set, replicate, Float}
use Rattle.float.specs.Ops.{◌⊕◌, ◌⊗◌, bits, at}
use Rattle.loops.specs.Loop.{for}

-- a flat matrix of m rows and n columns
pub record Grid (m n : ℕ) (a : List Float) : Type 0 where
  pub few : m ≤ 4144
  pub narrow : n ≤ 68
  pub full : length a ≡ m * n

module _ (n : ℕ) (entry : ℕ → ℕ → Float) where
  -- jt_j[c1][c2] += v × jacobian[row][c2], with v = jacobian[row][c1]
  unfoldable pub add_product : Float → ℕ → ℕ → ℕ → List Float → List Float
  add_product v row c1 c2 a = set a (c1 * n + c2) (at a (c1 * n + c2) ⊕ v ⊗ entry row c2)

  unfoldable pub add_products : ℕ → ℕ → List Float → List Float
  add_products row c1 a = for 0 n (add_product (entry row c1) row c1) a

  unfoldable pub add_row : ℕ → List Float → List Float
  add_row row a = for 0 n (add_products row) a

  -- jt_r[c1] += jacobian[row][c1] × residuals[row]
  unfoldable pub add_right : (ℕ → Float) → ℕ → ℕ → List Float → List Float
  add_right residual row c1 v = set v c1 (at v c1 ⊕ entry row c1 ⊗ residual row)

  unfoldable pub add_rights : (ℕ → Float) → ℕ → List Float → List Float
  add_rights residual row v = for 0 n (add_right residual row) v

  -- JᵀJ and Jᵀr of m rows
  unfoldable pub jtj_of : ℕ → List Float
  jtj_of m = for 0 m add_row (replicate (n * n) (bits 0))

  unfoldable pub jtr_of : (ℕ → Float) → ℕ → List Float
  jtr_of residual m = for 0 m (add_rights residual) (replicate n (bits 0))

-- a table's entries
abbrev pub table_entry : ℕ → List Float → ℕ → ℕ → Float
table_entry n t row c = at t (row * n + c)

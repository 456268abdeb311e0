-- Gaussian elimination with partial pivoting on a flat matrix, loop by loop as `solve_linear_system` of the reference has it.
-- The augmented matrix a has n rows of n + 1 columns: the system's matrix, and its right side.
use Rattle.std.specs.Prelude.{◌≡◌, refl, cond, List, ℕ, ◌+◌, ◌*◌, ◌≤◌, length, set, replicate, Float}
use Rattle.std.proofs.Math.Option.{Option, none, some}
use Rattle.std.specs.Float.Ieee.{lt, of_bits, round}
use Rattle.loops.specs.Loop.{for, rev, next, try}
use Rattle.float.specs.Constant.{decimal}
use Rattle.float.specs.Ops.{◌⊕◌, ◌⊖◌, ◌⊗◌, ◌⊘◌, bits, abs_of, at}

-- a pivot below 1e-12 in size is refused
unfoldable pub least_pivot : Float
least_pivot = decimal 1 12

pub least_pivot_bits : bits 0x3d719799812dea11 ≡ least_pivot
unfolding least_pivot of_bits round
least_pivot_bits = refl

-- where row r, column c of the augmented matrix is
abbrev pub cell_of : ℕ → ℕ → ℕ → ℕ
cell_of n r c = r * (n + 1) + c

-- what every step asks of its matrix
pub record Sized (n : ℕ) (a : List Float) : Type 0 where
  pub small : n ≤ 68
  pub full : length a ≡ n * (n + 1)

-- ---- forward elimination

-- of rows r and m the one to pivot on in column i: r where its entry is larger
unfoldable pub larger_pivot : ℕ → List Float → ℕ → ℕ → ℕ → ℕ
larger_pivot n a i r m = cond (lt (abs_of (at a (cell_of n m i))) (abs_of (at a (cell_of n r i)))) r m

unfoldable pub pivot_row : ℕ → List Float → ℕ → ℕ
pivot_row n a i = for (i + 1) n (larger_pivot n a i) i

-- rows i and m exchanged in column c, and in all
unfoldable pub swap_entries : ℕ → ℕ → ℕ → ℕ → List Float → List Float
swap_entries n i m c a = set (set a (cell_of n i c) (at a (cell_of n m c))) (cell_of n m c) (at a (cell_of n i c))

unfoldable pub swap_rows : ℕ → ℕ → ℕ → List Float → List Float
swap_rows n i m a = for 0 (n + 1) (swap_entries n i m) a

-- a multiple of row i taken from row r in column c, in all columns from i on, and in all rows below i
unfoldable pub eliminate_entry : (n i r : ℕ) (factor : Float) (c : ℕ) (a : List Float) → List Float
eliminate_entry n i r factor c a = set a (cell_of n r c) (at a (cell_of n r c) ⊖ factor ⊗ at a (cell_of n i c))

unfoldable pub eliminate_row : ℕ → ℕ → ℕ → List Float → List Float
eliminate_row n i r a = for i (n + 1) (eliminate_entry n i r (at a (cell_of n r i) ⊘ at a (cell_of n i i))) a

unfoldable pub eliminate_below : ℕ → ℕ → List Float → List Float
eliminate_below n i a = for (i + 1) n (eliminate_row n i) a

-- column i eliminated below its pivot, unless the pivot is too small; a NaN pivot is not
unfoldable pub reduce_column : ℕ → ℕ → List Float → Option (List Float)
reduce_column n i a =
    let p = swap_rows n i (pivot_row n a i) a in
    cond (lt (abs_of (at p (cell_of n i i))) least_pivot) none (some (eliminate_below n i p))

unfoldable pub forward_elimination : ℕ → List Float → Option (List Float)
forward_elimination n a = try 0 n (reduce_column n) a

-- ---- back substitution

-- the unknowns that are known, times their coefficients, are added up
unfoldable pub add_term : (n : ℕ) (a sol : List Float) (r c : ℕ) (sum : Float) → Float
add_term n a sol r c sum = sum ⊕ at a (cell_of n r c) ⊗ at sol c

unfoldable pub substitute_row : ℕ → List Float → ℕ → List Float → List Float
substitute_row n a r sol = set sol r ((at a (cell_of n r n) ⊖ for (r + 1) n (add_term n a sol r) (bits 0)) ⊘ at a (cell_of n r r))

unfoldable pub back_substitution : ℕ → List Float → List Float
back_substitution n a = rev n (substitute_row n a) (replicate n (bits 0))

-- ---- the whole

-- the matrix m, row by row, with the vector v as its last column
unfoldable pub augment_entry : ℕ → List Float → ℕ → ℕ → List Float → List Float
augment_entry n m r c a = set a (cell_of n r c) (at m (r * n + c))

unfoldable pub augment_row : ℕ → List Float → List Float → ℕ → List Float → List Float
augment_row n m v r a = set (for 0 n (augment_entry n m r) a) (cell_of n r n) (at v r)

unfoldable pub augmented : ℕ → List Float → List Float → List Float
augmented n m v = for 0 n (augment_row n m v) (replicate (n * (n + 1)) (bits 0))

-- the solution of m x = v, unless a pivot is too small
unfoldable pub solution_of : ℕ → List Float → List Float → Option (List Float)
solution_of n m v = next (forward_elimination n (augmented n m v)) (λ a. some (back_substitution n a))

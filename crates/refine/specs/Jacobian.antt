-- The derivatives of the residuals by the parameters, by forward differences as the reference takes them.
use Rattle.std.specs.Prelude.{◌≡◌, refl, Bool, true, false, cond, ◌||◌, List, [], ℕ, zero, suc, ◌+◌, ◌-◌, ◌*◌, ◌%◌, ltb, eqb, set, Float}
use Rattle.std.proofs.Math.Option.{Option, none, some}
use Rattle.std.specs.Float.Ieee.{of_bits, round}
use Rattle.float.specs.Constant.{decimal}
use Rattle.float.specs.Ops.{◌⊕◌, ◌⊖◌, ◌⊘◌, bits, at}
use Rattle.loops.specs.Loop.{for}

-- how far a parameter is moved: 10 m for a, 1e-6 for the three angles and for df2, 1e-3 s for dt, 1e-2 Hz for df0, 1e-4 for df1
unfoldable pub a_eps : Float
a_eps = decimal 10 0

pub a_eps_bits : bits 0x4024000000000000 ≡ a_eps
unfolding a_eps of_bits round
a_eps_bits = refl

unfoldable pub milli : Float
milli = decimal 1 3

pub milli_bits : bits 0x3f50624dd2f1a9fc ≡ milli
unfolding milli of_bits round
milli_bits = refl

unfoldable pub hundredth : Float
hundredth = decimal 1 2

pub hundredth_bits : bits 0x3f847ae147ae147b ≡ hundredth
unfolding hundredth of_bits round
hundredth_bits = refl

unfoldable pub tenth_milli : Float
tenth_milli = decimal 1 4

pub tenth_milli_bits : bits 0x3f1a36e2eb1c432d ≡ tenth_milli
unfolding tenth_milli of_bits round
tenth_milli_bits = refl

unfoldable pub micro : Float
micro = decimal 1 6

pub micro_bits : bits 0x3eb0c6f7a0b5ed8d ≡ micro
unfolding micro of_bits round
micro_bits = refl

unfoldable pub bias_eps : ℕ → Float
bias_eps j = cond (eqb j 0) milli (cond (eqb j 1) hundredth (cond (eqb j 2) tenth_milli micro))

-- a pass has four biases in the second refinement, two in the first
unfoldable pub eps_of : Bool → ℕ → Float
eps_of second k = cond (eqb k 0) a_eps (cond (ltb k 4) micro (cond second (bias_eps ((k - 4) % 4)) (bias_eps ((k - 4) % 2))))

-- the set x with parameter k moved by e
unfoldable pub perturbed_of : List Float → ℕ → Float → List Float
perturbed_of x k e = set x k (at x k ⊕ e)

-- the difference quotient of a parameter moved by e: v is the moved set's residual, w the set's
abbrev pub quotient : Float → Float → Float → Float
quotient e v w = (v ⊖ w) ⊘ e

abbrev pub numbers : Option (List Float) → List Float
numbers none = []
numbers (some r) = r

abbrev pub is_far_set : Option (List Float) → Bool
is_far_set none = true
is_far_set (some r) = false

-- the residual of the set x in a row, where res gives a set's residuals
unfoldable pub residual_at : (List Float → Option (List Float)) → List Float → ℕ → Float
residual_at res x row = at (numbers (res x)) row

module _ (eps : ℕ → Float) (res : List Float → Option (List Float)) (x : List Float) where
  -- the derivative of the residual in a row by parameter k: a function of set, row and column alone
  unfoldable pub entry_of : ℕ → ℕ → Float
  entry_of row k = quotient (eps k) (at (numbers (res (perturbed_of x k (eps k)))) row) (at (numbers (res x)) row)

  -- whether one of the sets with a parameter moved, of n parameters from k on, has a moment too far off: refusal 23
  unfoldable pub any_far : ℕ → ℕ → Bool
  any_far zero k = false
  any_far (suc n) k = is_far_set (res (perturbed_of x k (eps k))) || any_far n (k + 1)

-- ---- the table as the code makes it, column by column: m rows of n numbers, row by row. proofs/Table.antt: it holds the entries.

unfoldable pub put_entry : (n : ℕ) (e : Float) (k : ℕ) (r c : List Float) (row : ℕ) (t : List Float) → List Float
put_entry n e k r c row t = set t (row * n + k) (quotient e (at c row) (at r row))

abbrev pub put_column : (m n : ℕ) (e : Float) (k : ℕ) (r : List Float) (c : Option (List Float)) (t : List Float) → Option (List Float)
put_column m n e k r none t = none
put_column m n e k r (some c) t = some (for 0 m (put_entry n e k r c) t)

unfoldable pub column_of : (eps : ℕ → Float) (res : List Float → Option (List Float)) (x r : List Float) (m n k : ℕ) (t : List Float) → Option (List Float)
column_of eps res x r m n k t = put_column m n (eps k) k r (res (perturbed_of x k (eps k))) t

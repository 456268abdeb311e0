-- What an accepted fit's trial book says: the third demand, as far as it speaks of trials.
use Rattle.std.specs.Prelude.{◌≡◌, refl, true, false, cond, List, [], ◌∷◌, map, ℕ, ◌≤◌, length, Float}
use Rattle.std.proofs.Math.Option.{Option, none, some}
use Rattle.std.specs.Float.Ieee.{lt, le, of_bits, round}
use Rattle.float.specs.Constant.{decimal}
use Rattle.float.specs.Ops.{bits, largest}
use Rattle.book.specs.Book.{Book}

-- 1e11
unfoldable pub largest_sum : Float
largest_sum = decimal 100000000000 0

pub largest_sum_bits : bits 0x42374876e8000000 ≡ largest_sum
unfolding largest_sum of_bits round
largest_sum_bits = refl

unfoldable pub All : (Float → Type 0) → List Float → Type 0
All P [] = Unit
All P (s ∷ ss) = P s × All P ss

-- each number is below the one before it, the first below `top`
unfoldable pub Falling : Float → List Float → Type 0
Falling top [] = Unit
Falling top (s ∷ ss) = (lt s top ≡ true) × Falling s ss

-- ---- what is kept, from the log alone

-- the sums below the bound b and below all such before them: a NaN is never one, and never a bound
unfoldable pub minima : Float → List Float → List Float
minima b [] = []
minima b (v ∷ l) = cond (lt v b) (v ∷ minima v l) (minima b l)

-- the sets that were tried with these sums
unfoldable pub kept_sets : Float → List Float → List (List Float) → List (List Float)
kept_sets b [] xs = []
kept_sets b (v ∷ l) [] = []
kept_sets b (v ∷ l) (x ∷ xs) = cond (lt v b) (x ∷ kept_sets v l xs) (kept_sets b l xs)

-- the last number of a list, or the top; the last set of a list, if there is one
unfoldable pub last_of : Float → List Float → Float
last_of top [] = top
last_of top (s ∷ l) = last_of s l

unfoldable pub last_set : List (List Float) → Option (List Float)
last_set [] = none
last_set (x ∷ []) = some x
last_set (x ∷ y ∷ xs) = last_set (y ∷ xs)

pub record Tried (sum : List Float → Option Float) (most : ℕ) (b : Book) : Type 0 where
  -- the best set's sum, worked out again, is the best sum, and it is at most 1e11
  pub again : sum b.search.best_set ≡ some b.search.best
  pub small : le b.search.best largest_sum ≡ true
  -- the log holds the sums of the tried sets, place by place; none is below the best
  pub sums : map sum b.tried ≡ map some b.log
  pub least : All (λ s. lt s b.search.best ≡ false) b.log
  -- the kept sums are those that went below all kept before; the last is the best, and the set tried with it is the best set
  pub keeps : b.kept ≡ minima largest b.log
  pub last : last_of largest b.kept ≡ b.search.best
  pub kept_last : last_set (kept_sets largest b.log b.tried) ≡ some b.search.best_set
  -- each kept sum is below the one kept before
  pub falling : Falling largest b.kept
  pub some_trial : 1 ≤ b.count
  pub most_trials : b.count ≤ most
  pub logged : length b.log ≡ b.count

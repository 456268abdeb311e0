-- The passes that a fit works with. Samples stand one pass after the other, so dropping the empty passes' counts leaves times and
-- frequencies as they are.
use Rattle.std.specs.Prelude.{◌≡◌, cond, List, [], ◌∷◌, ℕ, eqb, length, take, Float}
use Rattle.float.specs.Ops.{bits}
use Rattle.arguments.specs.declared.NonEmpty.{NonEmpty}

-- the counts of the non-empty passes: there are P of them
unfoldable pub non_empty : List ℕ → List ℕ
non_empty [] = []
non_empty (n ∷ ns) = cond (eqb n 0) (non_empty ns) (n ∷ non_empty ns)

-- the first non-empty pass's centre frequency; 0.0 if there is none
unfoldable pub center_of : List ℕ → List Float → Float
center_of [] cs = bits 0
center_of (n ∷ ns) [] = bits 0
center_of (n ∷ ns) (c ∷ cs) = cond (eqb n 0) (center_of ns cs) c

-- r holds the counts of the non-empty passes in its first places, and how many they are
pub record Compacts (counts : List ℕ) (r : NonEmpty) : Type 0 where
  pub number : r.passes ≡ length (non_empty counts)
  pub kept : take r.passes r.counts ≡ non_empty counts

-- A word with a comma, in the library's words. Assumes nothing.
use mathlib.Core.Path.{◌≡◌, refl, ◌∙◌}
use mathlib.Core.Bool.{Bool, true, false, ◌||◌, cond}
use mathlib.Core.List.{List, [], ◌∷◌}
use Prim.Native.Nat.{ℕ, suc}
use native.Mathlib.Omega.{arith}
use lib.Dec.{eqb, ltb}
use lib.ListN.{length}
use Rattle.std.specs.List.{list_any}
use Rattle.std.proofs.lemmas.Bool.Decides.{nat_tests}
use Rattle.passes.specs.Text.{until}

one_more : (k n : ℕ) → ltb k n ≡ ltb (suc k) (suc n)
one_more k n = grind (arith, nat_tests)

some : (n : ℕ) → true ≡ ltb 0 (suc n)
some n = grind (arith, nat_tests)

step : (b : Bool) {t : Bool} (k n : ℕ) → t ≡ ltb k n → (b || t) ≡ ltb (cond b 0 (suc k)) (suc n)
step true k n e = some n
step false k n e = e ∙ one_more k n

pub has : (b : ℕ) (l : List ℕ) → list_any (λ c. eqb c b) l ≡ ltb (until b l) (length l)
unfolding until
has b [] = refl
has b (c ∷ l) = step (eqb c b) (until b l) (length l) (has b l)

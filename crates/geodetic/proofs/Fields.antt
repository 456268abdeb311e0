-- A line's size without its end, and its fields by their commas. Assumes nothing.
use mathlib.Core.Path.{◌≡◌, refl, sym, ap, ◌∙◌}
use mathlib.Core.Bool.{Bool, true, false, cond}
use mathlib.Core.List.{List, [], ◌∷◌}
use Prim.Native.Nat.{ℕ, suc, ◌-◌, ◌<◌}
use native.Mathlib.Omega.{arith}
use lib.Dec.{eqb}
use lib.ListN.{length, get_or, take, drop}
use borrow.Author.Tests.{eq-eqb, ne_eqb}
use Rattle.text.specs.Text.{code}
use Rattle.passes.specs.Text.{until}
use Rattle.geodetic.specs.Line.{line_size, onto_first, fields_of}

-- ---- the size
module _ (l : List ℕ) where
  pub size_empty : length l ≡ 0 → 0 ≡ line_size l
  unfolding line_size
  size_empty e = go l e
    where
      go : (l : List ℕ) → length l ≡ 0 → 0 ≡ cond (eqb (get_or l (length l - 1) 0) 10) (cond (eqb (get_or l (length l - 2) 0) 13) (length l - 2) (length l - 1)) (length l)
      go [] e = refl
      go (c ∷ l) e = absurd (omega arith)

  pub size_open : (get_or l (length l - 1) 0 ≡ 10 → ⊥) → length l ≡ line_size l
  unfolding line_size
  size_open e = simp (ne_eqb (get_or l (length l - 1) 0) 10 e)

  pub size_lf : get_or l (length l - 1) 0 ≡ 10 → (get_or l (length l - 2) 0 ≡ 13 → ⊥) → length l - 1 ≡ line_size l
  unfolding line_size
  size_lf e f = simp (eq-eqb (get_or l (length l - 1) 0) 10 e, ne_eqb (get_or l (length l - 2) 0) 13 f)

  pub size_crlf : get_or l (length l - 1) 0 ≡ 10 → get_or l (length l - 2) 0 ≡ 13 → length l - 2 ≡ line_size l
  unfolding line_size
  size_crlf e f = simp (eq-eqb (get_or l (length l - 1) 0) 10 e, eq-eqb (get_or l (length l - 2) 0) 13 f)

-- a line end alone: its byte is no CR
pub size_one : (l : List ℕ) → length l ≡ 1 → get_or l (length l - 1) 0 ≡ 10 → 0 ≡ line_size l
size_one l n e =
    let z : length l - 2 ≡ length l - 1 = omega arith in
    let y : 0 ≡ length l - 1 = omega arith in
    y ∙ size_lf l e (λ (f : get_or l (length l - 2) 0 ≡ 13). let g = sym f ∙ ap (λ (k : ℕ). get_or l k 0) z ∙ e in omega arith)

-- ---- the fields
fields_comma : (c : ℕ) (l : List ℕ) → eqb c (code ",") ≡ true → fields_of (c ∷ l) ≡ [] ∷ fields_of l
unfolding fields_of
fields_comma c l e = simp e

fields_other : (c : ℕ) (l : List ℕ) → eqb c (code ",") ≡ false → fields_of (c ∷ l) ≡ onto_first c (fields_of l)
unfolding fields_of
fields_other c l e = simp e

until_comma : (c : ℕ) (l : List ℕ) → eqb c (code ",") ≡ true → until (code ",") (c ∷ l) ≡ 0
unfolding until
until_comma c l e = simp e

until_other : (c : ℕ) (l : List ℕ) → eqb c (code ",") ≡ false → until (code ",") (c ∷ l) ≡ suc (until (code ",") l)
unfolding until
until_other c l e = simp e

-- no comma: one field
pub fields_one : (l : List ℕ) → until (code ",") l ≡ length l → fields_of l ≡ l ∷ []
unfolding fields_of onto_first
fields_one [] e = refl
fields_one (c ∷ l) e = go (eqb c (code ",")) refl (fields_one l)
  where
    go : (b : Bool) → eqb c (code ",") ≡ b → (until (code ",") l ≡ length l → fields_of l ≡ l ∷ []) → fields_of (c ∷ l) ≡ (c ∷ l) ∷ []
    go true p ih = let z = until_comma c l p in absurd (omega arith)
    go false p ih = let z = until_other c l p in fields_other c l p ∙ ap (onto_first c) (ih (omega arith))

-- a comma: what stands before it, and the fields behind it
pub fields_more : (l : List ℕ) → until (code ",") l < length l → fields_of l ≡ take (until (code ",") l) l ∷ fields_of (drop (suc (until (code ",") l)) l)
unfolding onto_first
fields_more [] h = absurd (omega arith)
fields_more (c ∷ l) h = go (eqb c (code ",")) refl (fields_more l)
  where
    cut : ℕ → List ℕ → List (List ℕ)
    cut k m = take k m ∷ fields_of (drop (suc k) m)

    go : (b : Bool) → eqb c (code ",") ≡ b → (until (code ",") l < length l → fields_of l ≡ cut (until (code ",") l) l) → fields_of (c ∷ l) ≡ cut (until (code ",") (c ∷ l)) (c ∷ l)
    go true p ih = fields_comma c l p ∙ sym (ap (λ (k : ℕ). cut k (c ∷ l)) (until_comma c l p))
    go false p ih = let z = until_other c l p in fields_other c l p ∙ ap (onto_first c) (ih (omega arith)) ∙ sym (ap (λ (k : ℕ). cut k (c ∷ l)) z)

-- there is always one
some_onto : (c : ℕ) (fs : List (List ℕ)) → 0 < length (onto_first c fs)
unfolding onto_first
some_onto c [] = omega arith
some_onto c (f ∷ fs) = omega arith

pub fields_some : (l : List ℕ) → 0 < length (fields_of l)
unfolding fields_of
fields_some [] = omega arith
fields_some (c ∷ l) = go (eqb c (code ","))
  where
    go : (b : Bool) → 0 < length (cond b ([] ∷ fields_of l) (onto_first c (fields_of l)))
    go true = omega arith
    go false = some_onto c (fields_of l)

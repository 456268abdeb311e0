-- Parts of a list, and text stored in parts. Assumes nothing.
use mathlib.Core.Path.{◌≡◌, sym, ap, ◌∙◌}
use mathlib.Core.List.{List, [], ◌∷◌, ◌++◌}
use Prim.Native.Nat.{ℕ, suc, ◌+◌, ◌-◌, ◌≤◌, ◌<◌}
use native.Mathlib.Nat.{le_of_eq}
use native.Mathlib.Numerals.{add-one}
use native.Mathlib.Omega.{arith}
use lib.ListN.{length, get_or, take, drop, set, length-drop}
use lib.Seq.{drop-cons, take_all, length-take-le, sets}

-- all from a place on, as the contract of a part of a slice has it
pub rest : (l : List ℕ) (a : ℕ) → take (length l - a) (drop a l) ≡ drop a l
rest l a = take_all (length l - a) (drop a l) (le_of_eq (length-drop a l))

-- one element on
pub here : (l : List ℕ) (i : ℕ) → i < length l → drop i l ≡ get_or l i 0 ∷ drop (i + 1) l
here l i h = drop-cons l i 0 h ∙ ap (λ (k : ℕ). get_or l i 0 ∷ drop k l) (sym (add-one i))

-- the first n are n
pub prefix : {A : Type 0} (n : ℕ) (l : List A) → n ≤ length l → n ≡ length (take n l)
prefix n l h = sym (length-take-le n l h)

-- two parts stored, one behind the other
pub sets_append : (a b o : List ℕ) (i : ℕ) → sets o i (a ++ b) ≡ sets (sets o i a) (i + length a) b
sets_append [] b o i = let e : i + 0 ≡ i = omega arith in rw e
sets_append (x ∷ a) b o i = let e : i + suc (length a) ≡ suc i + length a = omega arith in rw e (sets_append a b (set o i x) (suc i))

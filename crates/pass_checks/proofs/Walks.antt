-- What the loops over passes and samples ask. Assumes nothing.
use mathlib.Core.Path.{◌≡◌, refl, sym, ap, ap₂, subst, ◌∙◌}
use mathlib.Core.Bool.{Bool, true, false, not, cond, ◌&&◌}
use mathlib.Core.List.{List, [], ◌∷◌}
use Prim.Native.Nat.{ℕ, zero, suc}
use native.Mathlib.Numerals.{add-one}
use borrow.Author.Tests.{eq-eqb, ne_eqb, eqb-true}
use lib.Dec.{eqb, ltb}
use lib.IntN.{ℤ, pos, negsuc}
use Rattle.std.proofs.Common.{arith, int_eq}
use Rattle.std.proofs.lemmas.Bool.Decides.{nat_tests, Decides-int_eq}
use lib.Ieee.{Float, eq}
use Rattle.std.specs.Prelude.{Some, None, Result, Ok, Err}
use Rattle.std.specs.List.{find, range_with_len}
use Rattle.std.specs.Cmp.Lexicographic.{pointwise}
use Rattle.pass_set.specs.PassSet.{count_of, pass_of}
use Rattle.passes.specs.File.{answer, name_at}
use Rattle.passes.specs.declared.pieces.Span.{Span}
use Rattle.passes.specs.declared.file.PassFile.{PassFile}
use Rattle.refusal.specs.declared.Refusal.{Refusal}
use Rattle.pass_checks.specs.Checks.{first_of, same, level, alike, part_other, named_other, other_name}

-- ---- the first number that passes a test, and lists alike, in the library's words

pub first_is : (test : ℕ → Bool) (p n : ℕ) → find test (range_with_len p n) ≡ first_of test p n
unfolding first_of
first_is test p zero = refl
first_is test p (suc n) = ap (cond (test p) (Some p)) (rw add-one (first_is test (suc p) n))

pub same_is : {A : Type 0} {like : A → A → Bool} (E : A → A → Bool) → ((x y : A) → E x y ≡ like x y) → (a b : List A) → pointwise E a b ≡ same like a b
unfolding same
same_is E e [] [] = refl
same_is E e [] (y ∷ b) = refl
same_is E e (x ∷ a) [] = refl
same_is E e (x ∷ a) (y ∷ b) = ap₂ ◌&&◌ (e x y) (same_is E e a b)

-- neither number is less where both are one
nat_level : (a b : ℕ) → eqb a b ≡ (not (ltb a b) && not (ltb b a))
nat_level a b = grind (arith, nat_tests)

level_self : (t : ℤ) → level t t ≡ true
unfolding level
level_self (pos a) = sym (nat_level a a) ∙ eq-eqb a a refl
level_self (negsuc a) = sym (nat_level a a) ∙ eq-eqb a a refl

level_same : (t u : ℤ) → level t u ≡ true → t ≡ u
unfolding level
level_same (pos a) (pos b) e = ap pos (eqb-true a b (nat_level a b ∙ e))
level_same (pos a) (negsuc b) e = let f : false ≡ true = e in cc
level_same (negsuc a) (pos b) e = let f : false ≡ true = e in cc
level_same (negsuc a) (negsuc b) e = ap negsuc (sym (eqb-true b a (nat_level b a ∙ e)))

same_bools : (b c : Bool) → (b ≡ true → c ≡ true) → (c ≡ true → b ≡ true) → b ≡ c
same_bools true c f g = sym (f refl)
same_bools false true f g = g refl
same_bools false false f g = refl

pub level_is : (t u : ℤ) → int_eq t u ≡ level t u
level_is t u =
    let d = Decides-int_eq t u in
    same_bools (int_eq t u) (level t u) (λ e. subst (λ (z : ℤ). level t z ≡ true) (d.0 e) (level_self t)) (λ e. d.1 (level_same t u e))

-- ---- whether a file has another name

module _ (name file : List ℕ) {r : Result PassFile Refusal} (e : r ≡ answer file 4096 4096) where
  pub no_file : {k : Refusal} → r ≡ Err k → false ≡ other_name name file
  unfolding other_name
  no_file g = ap (named_other name file) (sym g ∙ e)

  module _ {q : PassFile} (g : r ≡ Ok q) where
    pub no_name : q.name ≡ None → false ≡ other_name name file
    unfolding other_name
    no_name h = sym (ap (part_other name file) h) ∙ ap (named_other name file) (sym g ∙ e)

    pub another : {n : Span} {m : List ℕ} {b : Bool} → q.name ≡ Some n → m ≡ name_at file n → b ≡ same eqb name m → not b ≡ other_name name file
    unfolding other_name
    another h k i = ap not (i ∙ ap (same eqb name) k) ∙ sym (ap (part_other name file) h) ∙ ap (named_other name file) (sym g ∙ e)

-- ---- whether two passes are alike

pub no_count : {n : ℕ} {v : Bool} → n ≡ 0 → v ≡ not (eqb n 0) → v ≡ false
no_count {n} e d = d ∙ ap not (eq-eqb n 0 e)

module _ (counts : List ℕ) (times : List ℤ) (freqs : List Float) (p q : ℕ) where
  pub none_counted : count_of counts p ≡ 0 → false ≡ alike counts times freqs p q
  unfolding alike
  none_counted e = rw (eq-eqb (count_of counts p) 0 e)

  module _ (some : count_of counts p ≡ 0 → ⊥) {b : Bool} (t : b ≡ same level (pass_of counts p times) (pass_of counts q times)) where
    pub unlike_times : b ≡ false → false ≡ alike counts times freqs p q
    unfolding alike
    unlike_times e = rw (ne_eqb (count_of counts p) 0 some, ← t, e)

    pub like_times : {f : Bool} → b ≡ true → f ≡ same eq (pass_of counts p freqs) (pass_of counts q freqs) → f ≡ alike counts times freqs p q
    unfolding alike
    like_times e g = rw (ne_eqb (count_of counts p) 0 some, ← t, e) g

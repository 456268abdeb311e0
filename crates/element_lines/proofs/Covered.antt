-- What demand 3 calls right columns is inside the columns that are read. Assumes nothing.
use mathlib.Core.Path.{◌≡◌, refl, sym, subst}
use mathlib.Core.Logic.{◌⊎◌, inl, inr}
use mathlib.Core.Bool.{Bool, true, false, ◌&&◌, ◌||◌}
use mathlib.Core.List.{List, [], ◌∷◌}
use Prim.Native.Nat.{ℕ}
use lib.Dec.{T, eqb}
use lib.Ieee.Bits.{is_true}
use lib.Ieee.Fits.{and_i, and_l, and_r}
use borrow.Author.Tests.{eqb-true}
use Rattle.text.specs.Text.{code}
use Rattle.decimal.specs.Read.{is_digit}
use Rattle.tle.specs.Printed.{Class, only, digit, leading, later, letter, letter_or_blank, sign, is_blank, admits, matches_behind, matches_line, columns1, columns2}
use Rattle.tle.proofs.Values.{Digital}
use Rattle.tle.proofs.Printed.{digital, leading_digital, later_digital}
use Rattle.element_lines.specs.Columns.{readable1, readable2}

-- ---- one class inside another
abbrev takes_digits : Class → Bool
takes_digits (only x) = false
takes_digits digit = true
takes_digits leading = true
takes_digits later = true
takes_digits letter = false
takes_digits letter_or_blank = false
takes_digits sign = false

takes_digits_lem : (k : Class) → T (takes_digits k) → (b c : ℕ) → T (is_digit c) → T (admits k b c)
unfolding Digital
takes_digits_lem (only x) t b c s = absurd t
takes_digits_lem digit t b c s = digital b c s
takes_digits_lem leading t b c s = leading_digital b c s
takes_digits_lem later t b c s = later_digital b c s
takes_digits_lem letter t b c s = absurd t
takes_digits_lem letter_or_blank t b c s = absurd t
takes_digits_lem sign t b c s = absurd t

-- what stands behind the byte 0, which is no blank, stands behind any
first_alone : (a : Bool) → T (a || false) → T a
first_alone true t = tt
first_alone false t = absurd t

behind_any : (k : Class) (b c : ℕ) → T (admits k 0 c) → T (admits k b c)
behind_any (only x) b c t = t
behind_any digit b c t = t
behind_any leading b c t = t
behind_any later b c t = takes_digits_lem later tt b c (first_alone (is_digit c) t)
behind_any letter b c t = t
behind_any letter_or_blank b c t = t
behind_any sign b c t = t

-- p is the byte before, or 0 where it is not known
abbrev Known : ℕ → ℕ → Type 0
Known p b = (p ≡ 0) ⊎ (p ≡ b)

behind_known : (k : Class) (p b c : ℕ) → Known p b → T (admits k p c) → T (admits k b c)
behind_known k p b c (inl e) t = behind_any k b c (subst (λ (y : ℕ). T (admits k y c)) e t)
behind_known k p b c (inr e) t = subst (λ (y : ℕ). T (admits k y c)) e t

-- Whatever may stand in a column of the first class may stand in one of the second, behind p. Nothing is said of the classes that no written line has.
abbrev inside : ℕ → Class → Class → Bool
inside p (only x) k = admits k p x
inside p digit k = takes_digits k
inside p leading k = takes_digits k && admits k 0 (code " ")
inside p later k = takes_digits k && admits k (code " ") (code " ")
inside p letter k = false
inside p letter_or_blank k = false
inside p sign k = false

pub or_case : (a b : Bool) (A : Type 0) → T (a || b) → (T a → A) → (T b → A) → A
or_case true b A t f g = f tt
or_case false b A t f g = g t

blank_is : (c : ℕ) → T (is_blank c) → 32 ≡ c
blank_is c t = sym (eqb-true c 32 (is_true (is_blank c) t))

inside_sound : (p : ℕ) (k k' : Class) → T (inside p k k') → (b c : ℕ) → Known p b → T (admits k b c) → T (admits k' b c)
inside_sound p (only x) k' t b c h s = behind_known k' p b c h (subst (λ (y : ℕ). T (admits k' p y)) (sym (eqb-true c x (is_true (eqb c x) s))) t)
inside_sound p digit k' t b c h s = takes_digits_lem k' t b c s
inside_sound p leading k' t b c h s =
    or_case (is_digit c) (is_blank c) (T (admits k' b c)) s (takes_digits_lem k' (and_l (takes_digits k') (admits k' 0 32) t) b c)
    (λ z. behind_any k' b c (subst (λ (y : ℕ). T (admits k' 0 y)) (blank_is c z) (and_r (takes_digits k') (admits k' 0 32) t)))
inside_sound p later k' t b c h s =
    or_case (is_digit c) (is_blank b && is_blank c) (T (admits k' b c)) s (takes_digits_lem k' (and_l (takes_digits k') (admits k' 32 32) t) b c)
    (λ z. subst (λ (y : ℕ). T (admits k' y c)) (blank_is b (and_l (is_blank b) (is_blank c) z))
    (subst (λ (y : ℕ). T (admits k' 32 y)) (blank_is c (and_r (is_blank b) (is_blank c) z)) (and_r (takes_digits k') (admits k' 32 32) t)))
inside_sound p letter k' t b c h s = absurd t
inside_sound p letter_or_blank k' t b c h s = absurd t
inside_sound p sign k' t b c h s = absurd t

-- ---- one line's columns inside another's
abbrev known : Class → ℕ
known (only x) = x
known digit = 0
known leading = 0
known later = 0
known letter = 0
known letter_or_blank = 0
known sign = 0

is_known : (k : Class) (b c : ℕ) → T (admits k b c) → Known (known k) c
is_known (only x) b c s = inr (sym (eqb-true c x (is_true (eqb c x) s)))
is_known digit b c s = inl refl
is_known leading b c s = inl refl
is_known later b c s = inl refl
is_known letter b c s = inl refl
is_known letter_or_blank b c s = inl refl
is_known sign b c s = inl refl

abbrev all_inside : ℕ → List Class → List Class → Bool
all_inside p [] [] = true
all_inside p [] (k' ∷ ks') = false
all_inside p (k ∷ ks) [] = false
all_inside p (k ∷ ks) (k' ∷ ks') = inside p k k' && all_inside (known k) ks ks'

covers : (p : ℕ) (ks ks' : List Class) (b : ℕ) (l : List ℕ) → T (all_inside p ks ks') → Known p b → T (matches_behind b ks l) → T (matches_behind b ks' l)
unfolding matches_behind
covers p [] [] b l t h s = s
covers p [] (k' ∷ ks') b l t h s = absurd t
covers p (k ∷ ks) [] b l t h s = absurd t
covers p (k ∷ ks) (k' ∷ ks') b [] t h s = absurd s
covers p (k ∷ ks) (k' ∷ ks') b (c ∷ l) t h s =
    let here = and_l (admits k b c) (matches_behind c ks l) s in
    and_i (admits k' b c) (matches_behind c ks' l) (inside_sound p k k' (and_l (inside p k k') (all_inside (known k) ks ks') t) b c h here)
    (covers (known k) ks ks' c l (and_r (inside p k k') (all_inside (known k) ks ks') t) (is_known k b c here) (and_r (admits k b c) (matches_behind c ks l) s))

-- ---- the theorem
pub columns_covered_1 : (l : List ℕ) → T (matches_line columns1 l) → T (matches_line readable1 l)
columns_covered_1 l s = covers 0 columns1 readable1 0 l (unfold columns1 readable1 in tt) (inl refl) s

pub columns_covered_2 : (l : List ℕ) → T (matches_line columns2 l) → T (matches_line readable2 l)
columns_covered_2 l s = covers 0 columns2 readable2 0 l (unfold columns2 readable2 in tt) (inl refl) s

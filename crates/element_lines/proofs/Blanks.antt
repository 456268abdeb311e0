-- A whole number's columns take exactly the fields of blanks and then digits. Assumes nothing.
use mathlib.Core.Path.{◌≡◌, refl, sym, ap, ◌∙◌, subst}
use mathlib.Core.Bool.{Bool, true, false, ◌&&◌, ◌||◌}
use mathlib.Core.List.{List, [], ◌∷◌, ◌++◌}
use Prim.Native.Nat.{ℕ, zero, suc, ◌+◌, ◌-◌, ◌<◌}
use native.Mathlib.Omega.{arith}
use lib.Dec.{T, lit<}
use lib.ListN.{length, replicate, length-append}
use lib.Ieee.Bits.{is_true}
use lib.Ieee.Fits.{and_i, and_l, and_r}
use borrow.Author.Tests.{eqb-true}
use Rattle.decimal.specs.Read.{is_digit}
use Rattle.tle.specs.Printed.{Class, leading, later, is_blank, admits, matches_behind, digit_columns, later_columns, whole_columns}
use Rattle.tle.proofs.Printed.{leading_digital, later_digital}
use Rattle.tle.proofs.Values.{Digital}
use Rattle.element_lines.specs.Fields.{all_digits, BlanksLead}
use Rattle.element_lines.proofs.Matching.{matched_length}
use Rattle.element_lines.proofs.Covered.{or_case}
use Rattle.element_lines.proofs.OneDigit.{no_blank}

-- the columns behind a number's first
abbrev behind : ℕ → List Class
behind n = later_columns n ++ digit_columns 1

-- ---- what the columns take
after_digit : (n b : ℕ) (l : List ℕ) → is_blank b ≡ false → T (matches_behind b (behind n) l) → T (all_digits l)
unfolding matches_behind all_digits
after_digit zero b [] e s = absurd s
after_digit zero b (c ∷ []) e s = s
after_digit zero b (c ∷ x ∷ l) e s = absurd (and_r (is_digit c) false s)
after_digit (suc n) b [] e s = absurd s
after_digit (suc n) b (c ∷ l) e s = and_i (is_digit c) (all_digits l) here (after_digit n c l (no_blank c here) (and_r (admits later b c) (matches_behind c (behind n) l) s))
  where
    only_digit : (a x y : Bool) → x ≡ false → T (a || (x && y)) → T a
    only_digit true x y f t = tt
    only_digit false x y f t = absurd (subst (λ (z : Bool). T (z && y)) f t)

    here : T (is_digit c)
    here = only_digit (is_digit c) (is_blank b) (is_blank c) e (and_l (admits later b c) (matches_behind c (behind n) l) s)

digits_lead : (l : List ℕ) → 0 < length l → T (all_digits l) → BlanksLead l
digits_lead l h t = record { count = 0; digits = l; is = refl; all_digits_lem = t; last_place = h }

one_more : (c : ℕ) (l : List ℕ) → T (is_blank c) → BlanksLead l → BlanksLead (c ∷ l)
one_more c l t p = record { count = suc p.count; digits = p.digits; is = ap (λ (x : ℕ). x ∷ l) (eqb-true c 32 (is_true (is_blank c) t)) ∙ ap (λ (x : List ℕ). 32 ∷ x) p.is; all_digits_lem = p.all_digits_lem; last_place = p.last_place }

-- a column more on the left, where a digit or a blank stands
step : (n c : ℕ) (l : List ℕ) → T (is_digit c || is_blank c) → T (matches_behind c (behind n) l) → BlanksLead l → BlanksLead (c ∷ l)
unfolding all_digits
step n c l t s p =
    or_case (is_digit c) (is_blank c) (BlanksLead (c ∷ l)) t (λ d. digits_lead (c ∷ l) (omega arith) (and_i (is_digit c) (all_digits l) d (after_digit n c l (no_blank c d) s))) (λ z. one_more c l z p)

digit_or_blank : (a x y : Bool) → T (a || (x && y)) → T (a || y)
digit_or_blank true x y t = tt
digit_or_blank false true y t = t
digit_or_blank false false y t = absurd t

rest : (n b : ℕ) (l : List ℕ) → T (matches_behind b (behind n) l) → BlanksLead l
unfolding matches_behind all_digits
rest zero b [] s = absurd s
rest zero b (c ∷ []) s = digits_lead (c ∷ []) (lit< tt) s
rest zero b (c ∷ x ∷ l) s = absurd (and_r (is_digit c) false s)
rest (suc n) b [] s = absurd s
rest (suc n) b (c ∷ l) s =
    let t = and_r (admits later b c) (matches_behind c (behind n) l) s in
    step n c l (digit_or_blank (is_digit c) (is_blank b) (is_blank c) (and_l (admits later b c) (matches_behind c (behind n) l) s)) t (rest n c l t)

first_column : (n b : ℕ) (l : List ℕ) → T (matches_behind b (leading ∷ behind n) l) → BlanksLead l
unfolding matches_behind
first_column n b [] s = absurd s
first_column n b (c ∷ l) s =
    let t = and_r (admits leading b c) (matches_behind c (behind n) l) s in
    step n c l (and_l (admits leading b c) (matches_behind c (behind n) l) s) t (rest n c l t)

-- ---- what they take is all
digits_taken : (n b : ℕ) (l : List ℕ) → length l ≡ n + 1 → T (all_digits l) → T (matches_behind b (behind n) l)
unfolding matches_behind all_digits Digital
digits_taken zero b [] e t = absurd (omega arith)
digits_taken zero b (c ∷ []) e t = t
digits_taken zero b (c ∷ x ∷ l) e t = absurd (omega arith)
digits_taken (suc n) b [] e t = absurd (omega arith)
digits_taken (suc n) b (c ∷ l) e t =
    and_i (admits later b c) (matches_behind c (behind n) l) (later_digital b c (and_l (is_digit c) (all_digits l) t)) (digits_taken n c l (omega arith) (and_r (is_digit c) (all_digits l) t))

behind_blank : (n j : ℕ) (l : List ℕ) → length (replicate j 32 ++ l) ≡ n + 1 → 0 < length l → T (all_digits l) → T (matches_behind 32 (behind n) (replicate j 32 ++ l))
unfolding matches_behind
behind_blank n zero l e h t = digits_taken n 32 l e t
behind_blank zero (suc j) l e h t = absurd (let f = length-append (replicate j 32) l in omega (arith, e, f))
behind_blank (suc n) (suc j) l e h t = behind_blank n j l (omega arith) h t

first_taken : (n b j : ℕ) (l : List ℕ) → length (replicate j 32 ++ l) ≡ n + 2 → 0 < length l → T (all_digits l) → T (matches_behind b (leading ∷ behind n) (replicate j 32 ++ l))
unfolding matches_behind all_digits Digital
first_taken n b zero [] e h t = absurd (omega arith)
first_taken n b zero (c ∷ l) e h t =
    and_i (admits leading b c) (matches_behind c (behind n) l) (leading_digital b c (and_l (is_digit c) (all_digits l) t)) (digits_taken n c l (omega arith) (and_r (is_digit c) (all_digits l) t))
first_taken n b (suc j) l e h t = behind_blank n j l (omega arith) h t

-- ---- the theorem, of n + 2 columns
columns_are : (n : ℕ) → whole_columns (n + 2) ≡ leading ∷ behind n
columns_are n = let e : n + 2 - 2 ≡ n = omega arith in rw e

columns_count : (n : ℕ) → length (behind n) ≡ n + 1
columns_count zero = refl
columns_count (suc n) = let e = columns_count n in omega (arith, e)

pub blanks_lead : (n b : ℕ) (l : List ℕ) → T (matches_behind b (whole_columns (n + 2)) l) → (length l ≡ n + 2) × BlanksLead l
blanks_lead n b l s =
    let t : T (matches_behind b (leading ∷ behind n) l) = subst (λ (ks : List Class). T (matches_behind b ks l)) (columns_are n) s in
    let e = matched_length b (leading ∷ behind n) l (is_true (matches_behind b (leading ∷ behind n) l) t) in
    let f = columns_count n in
    (omega (arith, e, f), first_column n b l t)

pub blanks_taken : (n b : ℕ) (l : List ℕ) → length l ≡ n + 2 → BlanksLead l → T (matches_behind b (whole_columns (n + 2)) l)
blanks_taken n b l e p =
    subst (λ (ks : List Class). T (matches_behind b ks l)) (sym (columns_are n))
    (subst (λ (x : List ℕ). T (matches_behind b (leading ∷ behind n) x)) (sym p.is) (first_taken n b p.count p.digits (sym (ap length p.is) ∙ e) p.last_place p.all_digits_lem))

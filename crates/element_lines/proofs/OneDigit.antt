-- An accepted pair of lines with one digit replaced by another is refused: for its columns where it is a line's number, else for its checksum. Assumes nothing.
use mathlib.Core.Path.{◌≡◌, refl, sym, ap, ◌∙◌, subst}
use mathlib.Core.Logic.{inl, inr}
use mathlib.Core.Bool.{Bool, true, false, not, ◌&&◌, ◌||◌}
use mathlib.Core.List.{List, [], ◌∷◌}
use Prim.Native.Nat.{ℕ, zero, suc, ◌+◌, ◌-◌, ◌%◌, ◌≤◌, ◌<◌}
use native.Mathlib.Omega.{arith}
use lib.Dec.{T, eqb, lit≤}
use lib.ListN.{length, get_or, set, take, length-take}
use lib.Seq.{take-set-le, take-set-lt, drop-set-lt, get_or-take, get_or-set_same, lt-length-set}
use lib.Ieee.Bits.{is_true}
use lib.Ieee.Fits.{and_i, and_l, and_r}
use borrow.Author.Tests.{not-true, ne_eqb, eqb-true, le-leb, lt-leb}
use Rattle.laws.proofs.Lists.{here}
use Rattle.laws.proofs.Numbers.{lt_or_ge}
use Rattle.laws.proofs.Tests.{and_true}
use Rattle.std.specs.Prelude.{Some, None, Err}
use Rattle.refusal.specs.Refusals.{first_of, ◌when◌}
use Rattle.refusal.specs.declared.Refusal.TheVariants.{LineColumns, LineChecksum, Eccentric}
use Rattle.decimal.specs.Read.{is_digit}
use Rattle.decimal.proofs.Grammar.{digit_range}
use Rattle.tle.specs.Lines.{weight_of, weight_sum, checksum_of}
use Rattle.tle.specs.Printed.{Class, only, digit, leading, later, letter, letter_or_blank, sign, is_blank, is_letter, is_plus_or_minus, admits, matches_behind, matches_line, read_digits, number_in}
use Rattle.tle.proofs.Printed.{leading_digital, later_digital}
use Rattle.tle.proofs.Values.{Digital}
use Rattle.element_lines.specs.Columns.{readable1, readable2}
use Rattle.element_lines.specs.Reading.{summed, circular, elements_refusal, read_element_lines_of}
use Rattle.element_lines.specs.Written.{DigitChanged, changed_refusal}
use Rattle.element_lines.proofs.Matching.{length_1, length_2}

-- ---- a digit is nothing else
range : (c : ℕ) → T (is_digit c) → (48 ≤ c) × (c ≤ 57)
range c t = digit_range c (is_true (is_digit c) t)

pub no_blank : (c : ℕ) → T (is_digit c) → is_blank c ≡ false
no_blank c t = let r = range c t in ne_eqb c 32 (λ e. omega (arith, r.0))

no_letter : (c : ℕ) → T (is_digit c) → is_letter c ≡ false
no_letter c t = let r = range c t in simp (lt-leb 65 c (omega (arith, r.1)))

no_sign : (c : ℕ) → T (is_digit c) → is_plus_or_minus c ≡ false
no_sign c t = let r = range c t in simp (ne_eqb c 43 (λ e. omega (arith, r.0)), ne_eqb c 45 (λ e. omega (arith, r.0)))

-- ---- the columns take the other digit too, unless one byte alone stands there
abbrev digit_alone : Class → Bool
digit_alone (only x) = is_digit x
digit_alone digit = false
digit_alone leading = false
digit_alone later = false
digit_alone letter = false
digit_alone letter_or_blank = false
digit_alone sign = false

impossible : (a b : Bool) (A : Type 0) → a ≡ false → b ≡ false → T (a || b) → A
impossible a b A e f t = absurd (subst T (ap (λ (x : Bool). x || b) e ∙ f) t)

other_digit : (k : Class) (b c d : ℕ) → digit_alone k ≡ false → T (is_digit c) → T (is_digit d) → T (admits k b c) → T (admits k b d)
unfolding Digital
other_digit (only x) b c d n t u s = absurd (subst T (ap is_digit (eqb-true c x (is_true (eqb c x) s)) ∙ n) t)
other_digit digit b c d n t u s = u
other_digit leading b c d n t u s = leading_digital b d u
other_digit later b c d n t u s = later_digital b d u
other_digit letter b c d n t u s = absurd (subst T (no_letter c t) s)
other_digit letter_or_blank b c d n t u s = impossible (is_letter c) (is_blank c) (T (admits letter_or_blank b d)) (no_letter c t) (no_blank c t) s
other_digit sign b c d n t u s = impossible (is_plus_or_minus c) (is_blank c) (T (admits sign b d)) (no_sign c t) (no_blank c t) s

-- behind one digit what stands behind the other
behind_digit : (k : Class) (c d x : ℕ) → T (is_digit c) → T (is_digit d) → admits k c x ≡ admits k d x
behind_digit (only y) c d x t u = refl
behind_digit digit c d x t u = refl
behind_digit leading c d x t u = refl
behind_digit later c d x t u = simp (no_blank c t, no_blank d u)
behind_digit letter c d x t u = refl
behind_digit letter_or_blank c d x t u = refl
behind_digit sign c d x t u = refl

rest_behind : (ks : List Class) (c d : ℕ) (l : List ℕ) → T (is_digit c) → T (is_digit d) → matches_behind c ks l ≡ matches_behind d ks l
unfolding matches_behind
rest_behind [] c d [] t u = refl
rest_behind [] c d (x ∷ l) t u = refl
rest_behind (k ∷ ks) c d [] t u = refl
rest_behind (k ∷ ks) c d (x ∷ l) t u = ap (λ (b : Bool). b && matches_behind x ks l) (behind_digit k c d x t u)

abbrev none_alone : List Class → Bool
none_alone [] = true
none_alone (k ∷ ks) = not (digit_alone k) && none_alone ks

still_matches : (ks : List Class) (b : ℕ) (l : List ℕ) (k d : ℕ) → T (none_alone ks) → T (is_digit (get_or l k 0)) → T (is_digit d) → T (matches_behind b ks l)
    → T (matches_behind b ks (set l k d))
unfolding matches_behind
still_matches [] b [] k d n t u s = s
still_matches [] b (c ∷ l) k d n t u s = absurd s
still_matches (q ∷ ks) b [] k d n t u s = absurd s
still_matches (q ∷ ks) b (c ∷ l) zero d n t u s =
    and_i (admits q b d) (matches_behind d ks l) (other_digit q b c d (not-true (digit_alone q) (is_true (not (digit_alone q)) (and_l (not (digit_alone q)) (none_alone ks) n))) t u (and_l (admits q b c) (matches_behind c ks l) s))
    (subst T (rest_behind ks c d l t u) (and_r (admits q b c) (matches_behind c ks l) s))
still_matches (q ∷ ks) b (c ∷ l) (suc k) d n t u s =
    and_i (admits q b c) (matches_behind c ks (set l k d)) (and_l (admits q b c) (matches_behind c ks l) s)
    (still_matches ks c l k d (and_r (not (digit_alone q)) (none_alone ks) n) t u (and_r (admits q b c) (matches_behind c ks l) s))

-- of a line whose first column alone has one byte
later_column : (x : ℕ) (ks : List Class) (l : List ℕ) (k d : ℕ) → T (none_alone ks) → T (is_digit (get_or l (suc k) 0)) → T (is_digit d) → T (matches_line (only x ∷ ks) l)
    → T (matches_line (only x ∷ ks) (set l (suc k) d))
unfolding matches_behind
later_column x ks [] k d n t u s = absurd s
later_column x ks (c ∷ l) k d n t u s =
    and_i (eqb c x) (matches_behind c ks (set l k d)) (and_l (eqb c x) (matches_behind c ks l) s) (still_matches ks c l k d n t u (and_r (eqb c x) (matches_behind c ks l) s))

first_column : (x : ℕ) (ks : List Class) (l : List ℕ) (d : ℕ) → (d ≡ get_or l 0 0 → ⊥) → T (matches_line (only x ∷ ks) l) → matches_line (only x ∷ ks) (set l 0 d) ≡ false
unfolding matches_behind
first_column x ks [] d o s = absurd s
first_column x ks (c ∷ l) d o s =
    let e : c ≡ x = eqb-true c x (is_true (eqb c x) (and_l (eqb c x) (matches_behind c ks l) s)) in
    simp (ne_eqb d x (λ z. o (z ∙ sym e)))

-- ---- the checksum
weight_digit : (c : ℕ) → T (is_digit c) → weight_of c ≡ c - 48
weight_digit c t = let r = range c t in simp (le-leb 48 c r.0, le-leb c 57 r.1)

weight_changed : (l : List ℕ) (k d : ℕ) → k < length l → weight_sum (set l k d) + weight_of (get_or l k 0) ≡ weight_sum l + weight_of d
unfolding weight_sum
weight_changed [] k d h = absurd (omega arith)
weight_changed (c ∷ l) zero d h = omega arith
weight_changed (c ∷ l) (suc k) d h = let e = weight_changed l k d (omega arith) in omega (arith, e)

sum_changed : (s s' c d : ℕ) → c ≤ 9 → d ≤ 9 → (d ≡ c → ⊥) → s' + c ≡ s + d → s % 10 ≡ s' % 10 → ⊥
sum_changed s s' c d h g o e f = o (omega arith)

last_number : (l : List ℕ) → 68 < length l → T (is_digit (get_or l 68 0)) → number_in 69 69 l ≡ get_or l 68 0 - 48
unfolding number_in read_digits
last_number l h t = rw (here l 68 h) (simp (is_true (is_digit (get_or l 68 0)) t) (omega arith))

same_sum : (l : List ℕ) → summed l ≡ true → number_in 69 69 l ≡ checksum_of (take 68 l)
unfolding summed
same_sum l e = eqb-true (number_in 69 69 l) (checksum_of (take 68 l)) e

other_sum : (l : List ℕ) → (number_in 69 69 l ≡ checksum_of (take 68 l) → ⊥) → summed l ≡ false
unfolding summed
other_sum l h = ne_eqb (number_in 69 69 l) (checksum_of (take 68 l)) h

number_kept : (l : List ℕ) (k d : ℕ) → k < 68 → number_in 69 69 (set l k d) ≡ number_in 69 69 l
unfolding number_in
number_kept l k d h = rw (drop-set-lt 68 l k d h)

-- a digit among the 68 counts in the sum
summed_part : (l : List ℕ) (k d : ℕ) → k < 68 → 68 < length l → T (is_digit (get_or l k 0)) → T (is_digit d) → (d ≡ get_or l k 0 → ⊥) → summed l ≡ true → summed (set l k d) ≡ false
unfolding checksum_of
summed_part l k d h g t u o s =
    let m = take 68 l in
    let c = get_or l k 0 in
    let size : k < length m = simp length-take (omega arith) in
    let r = range c t in
    let q = range d u in
    let w : weight_sum (set m k d) + (c - 48) ≡ weight_sum m + (d - 48) =
    ap (λ (n : ℕ). weight_sum (set m k d) + n) (sym (ap weight_of (get_or-take 68 l k 0 h) ∙ weight_digit c t)) ∙ weight_changed m k d size ∙ ap (λ (n : ℕ). weight_sum m + n) (weight_digit d u) in
    other_sum (set l k d)
    (λ e. sum_changed (weight_sum m) (weight_sum (set m k d)) (c - 48) (d - 48) (omega (arith, r.1)) (omega (arith, q.1)) (λ z. o (omega (arith, z, r.0, q.0))) w
    (sym (same_sum l s) ∙ sym (number_kept l k d h) ∙ e ∙ ap (λ (x : List ℕ). weight_sum x % 10) (take-set-lt 68 l k d h)))

-- the checksum's own digit
summed_last : (l : List ℕ) (k d : ℕ) → k ≡ 68 → 68 < length l → T (is_digit (get_or l k 0)) → T (is_digit d) → (d ≡ get_or l k 0 → ⊥) → summed l ≡ true → summed (set l k d) ≡ false
summed_last l k d f g t u o s =
    let same : get_or (set l 68 d) 68 0 ≡ d = get_or-set_same l 68 d 0 g in
    let t' : T (is_digit (get_or l 68 0)) = subst (λ (n : ℕ). T (is_digit (get_or l n 0))) f t in
    let u' : T (is_digit (get_or (set l 68 d) 68 0)) = subst (λ (n : ℕ). T (is_digit n)) (sym same) u in
    let r = range (get_or l 68 0) t' in
    let q = range d u in
    let o' : d ≡ get_or l 68 0 → ⊥ = λ z. o (z ∙ sym (ap (λ (n : ℕ). get_or l n 0) f)) in
    rw f
    (other_sum (set l 68 d)
    (λ e. o' (let a : d - 48 ≡ get_or l 68 0 - 48 =
    ap (λ (n : ℕ). n - 48) (sym same) ∙ sym (last_number (set l 68 d) (lt-length-set l 68 d g) u') ∙ e ∙ ap checksum_of (take-set-le 68 l 68 d (lit≤ tt)) ∙ sym (same_sum l s) ∙ last_number l g t' in
    omega (arith, a, r.0, q.0))))

summed_changed : (l : List ℕ) (k d : ℕ) → length l ≡ 69 → k < length l → T (is_digit (get_or l k 0)) → T (is_digit d) → (d ≡ get_or l k 0 → ⊥) → summed l ≡ true → summed (set l k d) ≡ false
summed_changed l k d n h t u o s =
    elim (lt_or_ge k 68) [ inl a ↦ summed_part l k d a (omega arith) t u o s | inr a ↦ summed_last l k d (omega arith) (omega arith) t u o s ]

-- ---- a line with the digit changed, by its place
abbrev Spoilt : List Class → ℕ → List ℕ → Type 0
Spoilt ks zero l' = matches_line ks l' ≡ false
Spoilt ks (suc k) l' = (matches_line ks l' ≡ true) × (summed l' ≡ false)

spoilt : (x : ℕ) (ks : List Class) (k : ℕ) (l l' : List ℕ) → T (none_alone ks) → length l ≡ 69 → matches_line (only x ∷ ks) l ≡ true → summed l ≡ true → DigitChanged k l l' → Spoilt (only x ∷ ks) k l'
spoilt x ks zero l l' n h m s c = rw c.is (first_column x ks l c.d c.other (subst T (sym m) tt))
spoilt x ks (suc k) l l' n h m s c =
    rw c.is (
      is_true (matches_line (only x ∷ ks) (set l (suc k) c.d)) (later_column x ks l k c.d n c.was_digit c.is_digit_lem (subst T (sym m) tt)),
      summed_changed l (suc k) c.d h c.inside c.was_digit c.is_digit_lem c.other s,
    )

spoilt_1 : (k : ℕ) (l l' : List ℕ) → matches_line readable1 l ≡ true → summed l ≡ true → DigitChanged k l l' → Spoilt readable1 k l'
unfolding readable1
spoilt_1 k l l' m s c = spoilt _ _ k l l' tt (length_1 l m) m s c

spoilt_2 : (k : ℕ) (l l' : List ℕ) → matches_line readable2 l ≡ true → summed l ≡ true → DigitChanged k l l' → Spoilt readable2 k l'
unfolding readable2
spoilt_2 k l l' m s c = spoilt _ _ k l l' tt (length_2 l m) m s c

-- ---- the theorem
record Accepted (l1 l2 : List ℕ) : Type 0 where
  right_1 : matches_line readable1 l1 ≡ true
  right_2 : matches_line readable2 l2 ≡ true
  summed_1 : summed l1 ≡ true
  summed_2 : summed l2 ≡ true

passed : (m s e : Bool) → first_of ((LineColumns when not m) ∷ (LineChecksum when not s) ∷ (Eccentric when not e) ∷ []) ≡ None → (m ≡ true) × (s ≡ true)
passed true true e z = (refl, refl)
passed true false e z = absurd cc
passed false s e z = absurd cc

accepted : (l1 l2 : List ℕ) → elements_refusal l1 l2 ≡ None → Accepted l1 l2
unfolding elements_refusal
accepted l1 l2 z =
    let p = passed (matches_line readable1 l1 && matches_line readable2 l2) (summed l1 && summed l2) (circular l2) z in
    let m = and_true (matches_line readable1 l1) (matches_line readable2 l2) p.0 in
    let s = and_true (summed l1) (summed l2) p.1 in
    record { right_1 = m.0; right_2 = m.1; summed_1 = s.0; summed_2 = s.1 }

refused_1 : (k : ℕ) (l1 l2 : List ℕ) → Spoilt readable1 k l1 → matches_line readable2 l2 ≡ true → elements_refusal l1 l2 ≡ Some (changed_refusal k)
unfolding elements_refusal
refused_1 zero l1 l2 p m = simp p
refused_1 (suc k) l1 l2 p m = simp (p.0, p.1, m, ne_eqb (suc k) 0 (λ z. omega arith))

refused_2 : (k : ℕ) (l1 l2 : List ℕ) → Spoilt readable2 k l2 → matches_line readable1 l1 ≡ true → summed l1 ≡ true → elements_refusal l1 l2 ≡ Some (changed_refusal k)
unfolding elements_refusal
refused_2 zero l1 l2 p m s = simp (p, m)
refused_2 (suc k) l1 l2 p m s = simp (p.0, p.1, m, s, ne_eqb (suc k) 0 (λ z. omega arith))

refused : (k : ℕ) (l1 l2 : List ℕ) → elements_refusal l1 l2 ≡ Some (changed_refusal k) → read_element_lines_of l1 l2 ≡ Err (changed_refusal k)
unfolding read_element_lines_of
refused k l1 l2 e = rw e refl

pub one_digit_1 : (k : ℕ) (l1 l1' l2 : List ℕ) → elements_refusal l1 l2 ≡ None → DigitChanged k l1 l1' → read_element_lines_of l1' l2 ≡ Err (changed_refusal k)
one_digit_1 k l1 l1' l2 z c = let a = accepted l1 l2 z in refused k l1' l2 (refused_1 k l1' l2 (spoilt_1 k l1 l1' a.right_1 a.summed_1 c) a.right_2)

pub one_digit_2 : (k : ℕ) (l1 l2 l2' : List ℕ) → elements_refusal l1 l2 ≡ None → DigitChanged k l2 l2' → read_element_lines_of l1 l2' ≡ Err (changed_refusal k)
one_digit_2 k l1 l2 l2' z c = let a = accepted l1 l2 z in refused k l1 l2' (refused_2 k l1 l2' (spoilt_2 k l2 l2' a.right_2 a.summed_2 c) a.right_1 a.summed_1)

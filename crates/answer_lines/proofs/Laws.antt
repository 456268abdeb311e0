-- Walking a line, and cutting parts out of it. Assumes nothing.
use mathlib.Core.Path.{◌≡◌, refl, sym, ap, ◌∙◌, subst}
use mathlib.Core.Bool.{Bool, true, false, ◌&&◌, ◌||◌, cond}
use mathlib.Core.List.{List, [], ◌∷◌}
use Prim.Native.Nat.{ℕ, suc, ◌+◌, ◌-◌, ◌*◌, ◌≤◌, ◌<◌, min}
use native.Mathlib.Nat.{le_of_lt, min-eq_left, min-eq_right}
use native.Mathlib.Omega.{arith}
use lib.Dec.{eqb, ltb}
use Rattle.std.specs.Cmp.Lexicographic.{pointwise}
use Rattle.std.specs.List.{range_with_len, list_any, list_all, enumerate_from}
use lib.ListN.{length, get_or, set, take, drop, length-set, drop_of_length-le}
use lib.Seq.{get_or-set_same, get_or-set_other}
use lib.IntN.{ℤ, pos}
use lib.Ieee.{Float, nan}
use borrow.Author.Tests.{eq-eqb, ne_eqb, eqb-true, eqb-false, ltb-true, ltb-false, lt-ltb, le-ltb}
use Rattle.laws.proofs.Lists.{rest}
use Rattle.answer_lines.specs.Lines.{first_place, begins_with, line_word, occurs, OnlyWords, asked_fields, fields_from, after_list, field_at, float_field, count_field, signed_field, every, same_list, FilledBy, ReadsSet}

-- ---- a name at the beginning, and in a table

eqb_sym : (a b : ℕ) → eqb a b ≡ eqb b a
eqb_sym a b = go (eqb b a) refl
  where
    go : (x : Bool) → eqb b a ≡ x → eqb a b ≡ x
    go true q = eq-eqb a b (sym (eqb-true b a q))
    go false q = ne_eqb a b (λ e. eqb-false b a q (sym e))

pub begins_is : (name line : List ℕ) → pointwise eqb name (take (length name) line) ≡ begins_with name line
unfolding begins_with
begins_is [] line = refl
begins_is (c ∷ name) [] = refl
begins_is (c ∷ name) (b ∷ line) = rw (eqb_sym c b, begins_is name line) (go (eqb b c))
  where
    go : (x : Bool) → (x && begins_with name line) ≡ cond x (begins_with name line) false
    go true = refl
    go false = refl

-- any place of the table has it
pub occurs_is : (name table : List ℕ) (test : ℕ → Bool) (k : ℕ) → ((i : ℕ) → test (k + i) ≡ begins_with name (drop i table)) → list_any test (range_with_len k (length table)) ≡ occurs name table
unfolding occurs
occurs_is name [] test k h = refl
occurs_is name (c ∷ table) test k h =
    let e : k ≡ k + 0 = omega arith in
    rw (ap test e ∙ h 0, occurs_is name table test (k + 1) (λ i. ap test (next i) ∙ h (suc i))) (go (begins_with name (c ∷ table)))
  where
    next : (i : ℕ) → k + 1 + i ≡ k + suc i
    next i = omega arith

    go : (x : Bool) → (x || occurs name table) ≡ cond x true (occurs name table)
    go true = refl
    go false = refl

-- ---- a test of every element

pub every_is : {A : Type 0} (test : ℕ → A → Bool) (l : List A) (i : ℕ) → list_all (λ (p : ℕ × A). test p.0 p.1) (enumerate_from i l) ≡ every test i l
unfolding every
every_is test [] i = refl
every_is test (x ∷ l) i = rw (every_is test l (i + 1)) (go (test i x))
  where
    go : (b : Bool) → (b && every test (i + 1) l) ≡ cond b (every test (i + 1) l) false
    go true = refl
    go false = refl

-- ---- how many, and then each

module _ {A : Type 0} (items : List ℕ → List A → Bool) (fields : List ℕ) (n : ℕ) (x : List A) where
  pub same_size : {r : Bool} → field_at fields 0 ≡ n → n ≤ length x → r ≡ items (fields_from 1 fields) (take n x) → r ≡ same_list items fields n x
  unfolding same_list
  same_size h g e = simp (eq-eqb (field_at fields 0) n h, le-ltb (length x) n g) e

  pub other_size : (field_at fields 0 ≡ n → ⊥) → false ≡ same_list items fields n x
  unfolding same_list
  other_size h = simp (ne_eqb (field_at fields 0) n h)

  pub too_few : field_at fields 0 ≡ n → length x < n → false ≡ same_list items fields n x
  unfolding same_list
  too_few h g = simp (eq-eqb (field_at fields 0) n h, lt-ltb (length x) n g)

-- ---- parts

pub asked_is : (line : List ℕ) (e s : ℕ) → e ≡ first_place 61 line → s ≡ first_place 32 (take e line) → take (length (take e line) - s) (drop s (take e line)) ≡ asked_fields line
unfolding asked_fields
asked_is line e s p q = rest (take e line) s ∙ ap (λ (k : ℕ). drop k (take e line)) q ∙ ap (λ (k : ℕ). drop (first_place 32 (take k line)) (take k line)) p

-- what stands after no more than the whole
drop_most : (n : ℕ) (l : List ℕ) {most : ℕ} → length l ≤ most → drop (min n most) l ≡ drop n l
drop_most n l {most} h = go (ltb n most) refl
  where
    go : (x : Bool) → ltb n most ≡ x → drop (min n most) l ≡ drop n l
    go true q = ap (λ (k : ℕ). drop k l) (min-eq_left (le_of_lt (ltb-true n most q)))
    go false q =
        let k = ltb-false n most q in
        ap (λ (m : ℕ). drop m l) (min-eq_right k) ∙ drop_of_length-le l h ∙ sym (drop_of_length-le l (omega (arith, h, k)))

pub after_is : (l : List ℕ) (n : ℕ) → take (length l - min n (length l)) (drop (min n (length l)) l) ≡ drop n l
after_is l n = rest l (min n (length l)) ∙ drop_most n l (omega arith)

pub from_is : (l : List ℕ) (k : ℕ) {m : ℕ} → length l ≤ 18446744073709551615 → m ≡ min (k * 17) 18446744073709551615 → drop m l ≡ fields_from k l
unfolding fields_from
from_is l k h e = ap (λ (m : ℕ). drop m l) e ∙ drop_most (k * 17) l h ∙ ap (λ (m : ℕ). drop m l) (omega arith)

pub after_list_is : (l : List ℕ) {n m : ℕ} → length l ≤ 18446744073709551615 → n ≡ field_at l 0 → m ≡ min (n + 1) 18446744073709551615 → fields_from m l ≡ after_list l
unfolding after_list fields_from
after_list_is l {n} {m} h e f = all (ltb (n + 1) 18446744073709551615) refl
  where
    all : (x : Bool) → ltb (n + 1) 18446744073709551615 ≡ x → drop (17 * m) l ≡ drop (17 * (1 + field_at l 0)) l
    all true q = let k = ltb-true (n + 1) 18446744073709551615 q in ap (λ (j : ℕ). drop j l) (omega (arith, e, f, k))
    all false q =
        let k = ltb-false (n + 1) 18446744073709551615 q in
        drop_of_length-le l (omega (arith, h, f, k)) ∙ sym (drop_of_length-le l (omega (arith, h, e, k)))

-- ---- a list that is filled from its first place on: the first i places have what f says

pub record Filling {A : Type 0} (f : ℕ → A) (none : A) (before l : List A) (i : ℕ) : Type 0 where
  pub long : length l ≡ length before
  pub at : (j : ℕ) → j < i → get_or l j none ≡ f j

module _ {A : Type 0} (f : ℕ → A) (none : A) where
  pub filling_none : (l : List A) → Filling f none l l 0
  filling_none l = record { long = refl; at = λ j h. absurd (below j h) }
    where
      below : (j : ℕ) → j < 0 → ⊥
      below j h = omega arith

  pub filling_more : {before l : List A} {i : ℕ} (v : A) → Filling f none before l i → i < length before → v ≡ f i → Filling f none before (set l i v) (i + 1)
  filling_more {before} {l} {i} v r h e = record { long = length-set l i v ∙ r.long; at = at }
    where
      inside : i < length l
      inside = subst (λ (n : ℕ). i < n) (sym r.long) h

      split : (j i : ℕ) → j < i + 1 → (j ≡ i → ⊥) → j < i
      split j i h n = omega (arith, n)

      at : (j : ℕ) → j < i + 1 → get_or (set l i v) j none ≡ f j
      at j h = go (eqb j i) refl
        where
          go : (b : Bool) → eqb j i ≡ b → get_or (set l i v) j none ≡ f j
          go true q = subst (λ (k : ℕ). get_or (set l i v) k none ≡ f k) (sym (eqb-true j i q)) (get_or-set_same l i v none inside ∙ e)
          go false q = get_or-set_other l i j v none (eqb-false j i q) ∙ r.at j (split j i h (eqb-false j i q))

  pub filling_all : {before l : List A} {i : ℕ} → Filling f none before l i → length before ≤ i → FilledBy f none l
  filling_all {before} {l} {i} r h = record { at = λ j g. r.at j (omega (arith, g, h, r.long)) }

-- ---- a pass set

pub set_read : (x : List ℕ) {m t f a b d e counts : List ℕ} {centers freqs : List Float} {times : List ℤ} {n p q s : ℕ} → m ≡ after_list x → t ≡ after_list m → f ≡ after_list t
    → a ≡ fields_from 1 x → b ≡ fields_from 1 m → d ≡ fields_from 1 t → e ≡ fields_from 1 f
    → FilledBy (count_field a) 0 counts → FilledBy (float_field b) nan centers → FilledBy (signed_field d) (pos 0) times → FilledBy (float_field e) nan freqs
    → n ≡ field_at x 0 → p ≡ field_at m 0 → q ≡ field_at t 0 → s ≡ field_at f 0
    → ReadsSet x counts centers times freqs (record { counts = n; centers = p; times = q; freqs = s })
set_read x {counts = counts} {centers = centers} {freqs = freqs} {times = times} em et ef ea eb ed ee fc fm ft ff en ep eq es =
    let t' = et ∙ ap after_list em in
    record {
      sizes = rw (en, ep, eq, es, ef, et, em);
      counted = subst (λ l. FilledBy (count_field l) 0 counts) ea fc;
      centred = subst (λ l. FilledBy (float_field l) nan centers) (eb ∙ ap (fields_from 1) em) fm;
      timed = subst (λ l. FilledBy (signed_field l) (pos 0) times) (ed ∙ ap (fields_from 1) t') ft;
      heard = subst (λ l. FilledBy (float_field l) nan freqs) (ee ∙ ap (fields_from 1) (ef ∙ ap after_list t')) ff;
    }

-- ---- a table of words

-- a line whose word was found in the table, whatever is said of the line then
pub known : (table line name : List ℕ) (found r : Bool) → name ≡ line_word line → found ≡ occurs name table → found ≡ true → OnlyWords table line r
known table line name true r p e h = record { other = λ k. cc }
known table line name false r p e h = record { other = λ k. cc }

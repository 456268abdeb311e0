-- A text's lines, counted one by one. Assumes nothing.
use mathlib.Core.Path.{◌≡◌, refl, sym, ap, ◌∙◌}
use mathlib.Core.Bool.{Bool, true, false, cond}
use mathlib.Core.List.{List, [], ◌∷◌}
use Prim.Native.Nat.{ℕ, suc, ◌+◌, ◌≤◌, ◌<◌}
use native.Mathlib.Nat.{zero-add}
use native.Mathlib.Numerals.{add-one}
use native.Mathlib.Omega.{arith}
use lib.Dec.{eqb}
use lib.ListN.{length, get_or, drop, drop_of_length-le}
use lib.Seq.{drop-cons, drop-drop}
use Rattle.text.specs.Text.{bytes}
use Rattle.answer_lines.specs.Lines.{first_place, begins_with, asked_fields, field_at}
use Rattle.replay.specs.declared.Tally.{Tally}
use Rattle.replay.specs.Count.{lines_from, lines_in, counted, tally_with, tally_ended, Tallied, last, asked}

-- what is left of a text after its first line
after : List ℕ → List ℕ
after l = drop (first_place 10 l + 1) l

head : (t : Bool) (c p : ℕ) (l : List ℕ) → lines_from true l ≡ suc (lines_from false (drop (p + 1) l)) →
    cond t (suc (lines_from false l)) (lines_from true l) ≡ suc (lines_from false (drop (cond t 0 (suc p) + 1) (c ∷ l)))
head true c p l h = refl
head false c p l h =
    h ∙ ap (λ (k : List ℕ). suc (lines_from false k)) (ap (λ (n : ℕ). drop n l) (add-one p) ∙ ap (λ (n : ℕ). drop n (c ∷ l)) (sym (add-one (suc p))))

begun : (l : List ℕ) → lines_from true l ≡ suc (lines_from false (after l))
unfolding lines_from first_place after
begun [] = refl
begun (c ∷ l) = head (eqb c 10) c (first_place 10 l) l (begun l)

first : (c : ℕ) (l : List ℕ) → lines_from false (c ∷ l) ≡ suc (lines_from false (after (c ∷ l)))
unfolding lines_from first_place after
first c l = head (eqb c 10) c (first_place 10 l) l (begun l)

-- a line ends where the next one begins
pub line : (text : List ℕ) (at end : ℕ) → at < length text → end ≡ at + first_place 10 (drop at text) →
    lines_from false (drop at text) ≡ lines_from false (drop (end + 1) text) + 1
unfolding after
line text at end h e =
    rest (drop at text) (drop-cons text at 0 h) ∙ ap (λ (k : List ℕ). suc (lines_from false k)) (drop-drop (first_place 10 (drop at text) + 1) at text ∙ ap (λ (n : ℕ). drop n text) there) ∙ sym (add-one (lines_from false (drop (end + 1) text)))
  where
    rest : (l : List ℕ) → l ≡ get_or text at 0 ∷ drop (suc at) text → lines_from false l ≡ suc (lines_from false (after l))
    rest l q = rw q (first (get_or text at 0) (drop (suc at) text))

    there : at + (first_place 10 (drop at text) + 1) ≡ end + 1
    there = omega arith

pub whole : (text : List ℕ) → 0 + lines_from false (drop 0 text) ≡ lines_in text
unfolding lines_in
whole text = zero-add _

pub ended : (text : List ℕ) (at : ℕ) → length text ≤ at → lines_from false (drop at text) ≡ 0
unfolding lines_from
ended text at h = rw (drop_of_length-le text h)

-- each line is counted once

with_one : (t : Tally) (changed same : Bool) → counted (tally_with t changed same) ≡ counted t + 1
unfolding tally_with
with_one t false true = omega arith
with_one t false false = omega arith
with_one t true false = omega arith
with_one t true true = omega arith

with_last : (t : Tally) (said : ℕ) → counted (tally_ended t said) ≡ counted t + 1
unfolding tally_ended
with_last t said = omega arith

pub one_more : {t : Tally} {line : List ℕ} {r : Tally} → Tallied t line r → counted r ≡ counted t + 1
one_more {t} (last h e) = ap counted e ∙ with_last t _
one_more {t} (asked h same e) = ap counted e ∙ with_one t _ same

pub last_line : {t r : Tally} {line fields : List ℕ} {found : Bool} {said : ℕ} → found ≡ begins_with (bytes "end ") line → found ≡ true →
    fields ≡ asked_fields line → said ≡ field_at fields 0 → r ≡ tally_ended t said → Tallied t line r
last_line {t} p q f s e = last (sym p ∙ q) (e ∙ ap (tally_ended t) (s ∙ ap (λ (l : List ℕ). field_at l 0) f))

pub asked_line : {t r : Tally} {line : List ℕ} {found mark : Bool} (same : Bool) → found ≡ begins_with (bytes "end ") line → found ≡ false →
    mark ≡ begins_with (bytes "not ") line → r ≡ tally_with t mark same → Tallied t line r
asked_line {t} same p q m e = asked (sym p ∙ q) same (e ∙ ap (λ (b : Bool). tally_with t b same) m)

-- The lines of an input, and a line that has room. Assumes nothing.
use mathlib.Core.Path.{◌≡◌, refl, sym, ap, ◌∙◌}
use mathlib.Core.Bool.{Bool, true, false, ◌&&◌, cond}
use mathlib.Core.List.{List, [], ◌∷◌, ◌++◌, map}
use Prim.Native.Nat.{ℕ, ◌+◌, ◌-◌, ◌≤◌, ◌<◌}
use native.Mathlib.Nat.{min-eq_left, le_of_lt, zero-add}
use native.Mathlib.Omega.{arith}
use lib.Dec.{eqb}
use lib.ListN.{length, get_or, take, drop, length-append}
use lib.Seq.{take_all, length-sets}
use Rattle.laws.proofs.Lists.{prefix, rest}
use Rattle.std.specs.Prelude.{Result, Ok, Err}
use Rattle.refusal.specs.Refusals.{number_of}
use Rattle.refusal.specs.declared.Refusal.{Refusal}
use Rattle.append.specs.declared.Text.{Text}
use Rattle.append.specs.Append.{Appends, Begins, Puts}
use Rattle.append.proofs.Appending.{called, alone, numeral_length}
use Rattle.passes.specs.Text.{Placed, push, starts_lf, lines, Cut}
use Rattle.element_lines.specs.Reading.{read_element_lines_of}
use Rattle.element_lines.specs.declared.Elements.{Elements}
use Rattle.elements_shown.specs.Shown.{line_at, numbers_line, refusal_shown, elements_line, shown_line, Shows}

pub all_read : (l : List ℕ) → length l < 256 → l ≡ take 256 l
all_read l h = sym (take_all 256 l (le_of_lt h))

-- ---- lines
abbrev texts : List Placed → List (List ℕ)
texts = map (λ l. l.bytes)

-- bytes before the first line, wherever it begins
before : List ℕ → List (List ℕ) → List (List ℕ)
before cs [] = cs ∷ []
before cs (l ∷ ls) = (cs ++ l) ∷ ls

pushed : (at : ℕ) (cs : List ℕ) (ls : List Placed) → texts (push at cs ls) ≡ before cs (texts ls)
unfolding push before
pushed at cs [] = refl
pushed at cs (l ∷ ls) = refl

one_more : (a b : ℕ) (t : Bool) (cs : List ℕ) (xs ys : List Placed) → texts xs ≡ texts ys
    → texts (cond t (record { at = a; bytes = [] } ∷ xs) (push a cs xs)) ≡ texts (cond t (record { at = b; bytes = [] } ∷ ys) (push b cs ys))
one_more a b true cs xs ys e = ap (λ (ls : List (List ℕ)). [] ∷ ls) e
one_more a b false cs xs ys e = pushed a cs xs ∙ ap (before cs) e ∙ sym (pushed b cs ys)

-- a text's lines do not depend on where it stands
anywhere : (l : List ℕ) (a b : ℕ) → texts (lines a l) ≡ texts (lines b l)
unfolding lines
anywhere [] a b = refl
anywhere (c ∷ l) a b =
    one_more a b (eqb c 10) (cond (eqb c 13 && starts_lf l) [] (c ∷ [])) (lines (a + 1) l) (lines (b + 1) l) (anywhere l (a + 1) (b + 1))

pub no_line : (k : ℕ) (l : List ℕ) → length l ≡ 0 → l ≡ line_at k l
unfolding line_at lines
no_line k [] e = refl
no_line k (c ∷ l) e = absurd (omega arith)

pub first_is : (n next : ℕ) (l : List ℕ) → Cut l n next → take n l ≡ line_at 0 l
unfolding line_at
first_is n next l c = sym (ap (λ (ls : List Placed). get_or (texts ls) 0 []) (c.is 0))

pub first_counted : (n next : ℕ) (l : List ℕ) → Cut l n next → n ≡ length (take n l)
first_counted n next l c = let s = c.size in let i = c.inside in prefix n l (omega arith)

-- the second line of a text is the first of what stands behind its first
pub second_is : (n next : ℕ) (l r : List ℕ) → Cut l n next → r ≡ line_at 0 (take (length l - next) (drop next l)) → r ≡ line_at 1 l
unfolding line_at
second_is n next l r c e =
    e ∙ ap (λ (t : List ℕ). line_at 0 t) (rest l next)
    ∙ ap (λ (ls : List (List ℕ)). get_or ls 0 []) (anywhere (drop next l) 0 (0 + next))
    ∙ sym (ap (λ (ls : List Placed). get_or (texts ls) 1 []) (c.is 0))

-- ---- room
numbers_length : (e : Elements) → length (numbers_line e) ≤ 128
unfolding numbers_line
numbers_length e =
    simp length-append (omega (arith, numeral_length e.year, numeral_length e.day, numeral_length e.inclination, numeral_length e.node, numeral_length e.mean_anomaly, numeral_length e.mean_motion))

refused_length : (k : ℕ) → length (refusal_shown k) ≤ 128
unfolding refusal_shown
refused_length k = simp length-append (omega (arith, numeral_length k))

answer_length : (e : Result Elements Refusal) → length (elements_line e) ≤ 128
answer_length (Ok e) = numbers_length e
answer_length (Err r) = refused_length (number_of r)

shown : (input out out' : List ℕ) (n : ℕ) → length (shown_line input) ≤ length out → Appends (shown_line input) 0 out out' n → Shows input out out' n
shown input out out' n h a =
    let e : n ≡ length (shown_line input) = a.behind ∙ rw zero-add (min-eq_left h) in
    record { is = a.is; counted = e; room = rw (a.is, length-sets, e) h }

pub shows : (input out : List ℕ) {part l1 l2 : List ℕ} {e : Result Elements Refusal} {t u : Text} → 128 ≡ length out
    → part ≡ take 256 input → l1 ≡ line_at 0 part → l2 ≡ line_at 1 part → e ≡ read_element_lines_of l1 l2 → Begins out t → Puts (elements_line e) t u → Shows input out u.out.now u.at
unfolding shown_line
shows input out {e = e} s p f g r b a =
    let same : elements_line e ≡ shown_line input = ap elements_line (r ∙ (λ j. read_element_lines_of (f j) (g j)) ∙ (λ j. read_element_lines_of (line_at 0 (p j)) (line_at 1 (p j)))) in
    let h : length (elements_line e) ≤ length out = rw (← s) (answer_length e) in
    shown input out _ _ (rw same at h) (alone b (called same a))

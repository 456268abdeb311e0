-- A line walked column by column, by the code's table. Assumes nothing.
use mathlib.Core.Path.{◌≡◌, refl, sym, ap, ◌∙◌}
use mathlib.Core.Bool.{Bool, true, false, true≢false, ◌&&◌}
use mathlib.Core.List.{List, [], ◌∷◌, map}
use Prim.Native.Nat.{ℕ, suc, ◌+◌, ◌≤◌, ◌<◌}
use native.Mathlib.Nat.{le_antisymm}
use lib.ListN.{length, get_or, drop, length-map}
use lib.Seq.{drop-length}
use Rattle.laws.proofs.Lists.{here}
use Rattle.laws.proofs.Tests.{and_true, and_false, and_then}
use Rattle.tle.specs.Printed.{Class, admits, matches_behind, matches_line}
use Rattle.element_lines.specs.Columns.{readable1, readable2}
use Rattle.element_lines.specs.Parts.{column_class}

-- ---- lengths
pub matched_length : (b : ℕ) (ks : List Class) (l : List ℕ) → matches_behind b ks l ≡ true → length l ≡ length ks
unfolding matches_behind
matched_length b [] [] e = refl
matched_length b [] (c ∷ l) e = absurd (true≢false (sym e))
matched_length b (k ∷ ks) [] e = absurd (true≢false (sym e))
matched_length b (k ∷ ks) (c ∷ l) e = ap suc (matched_length c ks l (and_true (admits k b c) (matches_behind c ks l) e).1)

pub line_length : (ks : List Class) (l : List ℕ) → matches_line ks l ≡ true → length l ≡ length ks
line_length ks l e = matched_length 0 ks l e

by_length : (b : Bool) → (b ≡ true → ⊥) → false ≡ b
by_length true h = absurd (h refl)
by_length false h = refl

pub other_length : (t l : List ℕ) → (length l ≡ length t → ⊥) → false ≡ matches_line (map column_class t) l
other_length t l h = by_length (matches_line (map column_class t) l) (λ e. h (line_length (map column_class t) l e ∙ length-map t column_class))

-- ---- from column i on, behind the byte b
abbrev pub left : ℕ → ℕ → List ℕ → List ℕ → Bool
left b i t l = matches_behind b (map column_class (drop i t)) (drop i l)

at : (b i : ℕ) (t l : List ℕ) → i < length t → i < length l → left b i t l ≡ (admits (column_class (get_or t i 0)) b (get_or l i 0) && left (get_or l i 0) (i + 1) t l)
unfolding matches_behind
at b i t l h g = rw (here t i h, here l i g)

pub wrong : (b i : ℕ) (t l : List ℕ) → i < length t → i < length l → admits (column_class (get_or t i 0)) b (get_or l i 0) ≡ false → false ≡ left b i t l
wrong b i t l h g e = and_false _ (left (get_or l i 0) (i + 1) t l) e ∙ sym (at b i t l h g)

pub right : (b i : ℕ) (t l : List ℕ) → i < length t → i < length l → admits (column_class (get_or t i 0)) b (get_or l i 0) ≡ true → left (get_or l i 0) (i + 1) t l ≡ left b i t l
right b i t l h g e = and_then _ (left (get_or l i 0) (i + 1) t l) e ∙ sym (at b i t l h g)

pub end : (b i : ℕ) (t l : List ℕ) → length l ≡ length t → i ≤ length l → length l ≤ i → left b i t l ≡ true
unfolding matches_behind
end b i t l e h k =
    let f : i ≡ length l = le_antisymm h k in
    let g : i ≡ length t = f ∙ e in
    ap (λ (n : ℕ). matches_behind b (map column_class (drop n t)) (drop i l)) g ∙ ap (λ (n : ℕ). matches_behind b (map column_class (drop (length t) t)) (drop n l)) f ∙ rw (drop-length t, drop-length l)

-- ---- tests

-- a line that is right has 69 bytes
pub length_1 : (l : List ℕ) → matches_line readable1 l ≡ true → length l ≡ 69
length_1 l e = line_length readable1 l e ∙ (unfold readable1 in refl)

pub length_2 : (l : List ℕ) → matches_line readable2 l ≡ true → length l ≡ 69
length_2 l e = line_length readable2 l e ∙ (unfold readable2 in refl)

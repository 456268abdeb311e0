-- A file's first line and the rest. Assumes nothing.
use mathlib.Core.Path.{◌≡◌, refl, sym, ap, ◌∙◌}
use mathlib.Core.Bool.{Bool, true, false, ◌&&◌, cond}
use mathlib.Core.List.{List, [], ◌∷◌, ◌++◌}
use Prim.Native.Nat.{ℕ, suc, ◌+◌, ◌-◌, ◌≤◌, ◌<◌}
use native.Mathlib.Numerals.{add-one}
use native.Mathlib.Omega.{arith}
use lib.Dec.{eqb}
use lib.ListN.{length, get_or, take, drop}
use lib.Seq.{take-length, drop-length}
use borrow.Author.Tests.{eq-eqb, ne_eqb}
use Rattle.laws.proofs.Tests.{and_right, false_behind}
use Rattle.passes.specs.Text.{Placed, push, starts_lf, lines, until, Cut}

-- the first line's length
first : List ℕ → ℕ
first [] = 0
first (c ∷ l) = cond (eqb c 10) 0 (cond (eqb c 13 && starts_lf l) 0 (suc (first l)))

abbrev placed : ℕ → List ℕ → Placed
placed at l = record { at = at; bytes = l }

-- ---- one byte, by what it is
module _ (c : ℕ) (l : List ℕ) where
  until_lf : eqb c 10 ≡ true → until 10 (c ∷ l) ≡ 0
  unfolding until
  until_lf e = simp e

  until_no : eqb c 10 ≡ false → until 10 (c ∷ l) ≡ suc (until 10 l)
  unfolding until
  until_no e = simp e

  first_lf : eqb c 10 ≡ true → first (c ∷ l) ≡ 0
  unfolding first
  first_lf e = simp e

  first_no : eqb c 10 ≡ false → first (c ∷ l) ≡ cond (eqb c 13 && starts_lf l) 0 (suc (first l))
  unfolding first
  first_no e = simp e

  lines_lf : (at : ℕ) → eqb c 10 ≡ true → lines at (c ∷ l) ≡ placed at [] ∷ lines (at + 1) l
  unfolding lines
  lines_lf at e = simp e

  lines_no : (at : ℕ) {b : Bool} → eqb c 10 ≡ false → (eqb c 13 && starts_lf l) ≡ b → lines at (c ∷ l) ≡ push at (cond b [] (c ∷ [])) (lines (at + 1) l)
  unfolding lines
  lines_no at e f = simp (e, f)

starts : (d : ℕ) (l : List ℕ) (b : Bool) → eqb d 10 ≡ b → starts_lf (d ∷ l) ≡ b
unfolding starts_lf
starts d l b e = e

starts_until : (l : List ℕ) → starts_lf l ≡ true → (until 10 l ≡ 0) × (first l ≡ 0)
unfolding starts_lf
starts_until [] e = let z : ◌≡◌ {A = ℕ} 0 1 = cc in absurd (omega arith)
starts_until (d ∷ l) e = (until_lf d l e, first_lf d l e)

push_line : (at : ℕ) (cs : List ℕ) {at' : ℕ} {ls : List Placed} {l : List ℕ} {r : List Placed} → ls ≡ placed at' l ∷ r → push at cs ls ≡ placed at (cs ++ l) ∷ r
unfolding push
push_line at cs e = ap (push at cs) e

-- ---- a line that a LF ends
cut : (l : List ℕ) (at : ℕ) → until 10 l < length l → lines at l ≡ placed at (take (first l) l) ∷ lines (at + suc (until 10 l)) (drop (suc (until 10 l)) l)
cut [] at h = absurd (omega arith)
cut (c ∷ l) at h = go (eqb c 10) refl (eqb c 13 && starts_lf l) refl (cut l (at + 1))
  where
    further : (u : ℕ) → at + 1 + u ≡ at + suc u
    further u = omega arith

    go : (a : Bool) → eqb c 10 ≡ a → (b : Bool) → (eqb c 13 && starts_lf l) ≡ b → (until 10 l < length l → lines (at + 1) l ≡ placed (at + 1) (take (first l) l) ∷ lines (at + 1 + suc (until 10 l)) (drop (suc (until 10 l)) l)) → lines at (c ∷ l) ≡ placed at (take (first (c ∷ l)) (c ∷ l)) ∷ lines (at + suc (until 10 (c ∷ l))) (drop (suc (until 10 (c ∷ l))) (c ∷ l))
    go true p b q ih = lines_lf c l at p ∙ sym (λ j. placed at (take (first_lf c l p j) (c ∷ l)) ∷ lines (at + suc (until_lf c l p j)) (drop (suc (until_lf c l p j)) (c ∷ l)))
    go false p true q ih =
        let u = until_no c l p in
        let s = starts_until l (and_right (eqb c 13) (starts_lf l) q) in
        lines_no c l at p q ∙ push_line at [] (ih (omega arith))
        ∙ (λ j. placed at (take (s.1 j) l) ∷ lines (further (suc (until 10 l)) j) (drop (suc (until 10 l)) l))
        ∙ sym (λ j. placed at (take ((first_no c l p ∙ ap (λ (b : Bool). cond b 0 (suc (first l))) q) j) (c ∷ l)) ∷ lines (at + suc (u j)) (drop (suc (u j)) (c ∷ l)))
    go false p false q ih =
        let u = until_no c l p in
        lines_no c l at p q ∙ push_line at (c ∷ []) (ih (omega arith))
        ∙ ap (λ (k : ℕ). placed at (c ∷ take (first l) l) ∷ lines k (drop (suc (until 10 l)) l)) (further (suc (until 10 l)))
        ∙ sym (λ j. placed at (take ((first_no c l p ∙ ap (λ (b : Bool). cond b 0 (suc (first l))) q) j) (c ∷ l)) ∷ lines (at + suc (u j)) (drop (suc (u j)) (c ∷ l)))

-- ---- a CR before the LF is no part of it
first_cr : (l : List ℕ) (k : ℕ) → until 10 l ≡ suc k → suc k < length l → first l ≡ cond (eqb (get_or l k 0) 13) k (suc k)
first_cr [] k u h = absurd (omega arith)
first_cr (c ∷ []) k u h = absurd (omega arith)
first_cr (c ∷ d ∷ l) k u h = go (eqb c 10) refl (eqb d 10) refl (first_cr (d ∷ l))
  where
    and_true : (x : Bool) → ◌≡◌ {A = ℕ} (cond (x && true) 0 1) (cond x 0 1)
    and_true true = refl
    and_true false = refl

    and_false : (x : Bool) (m n : ℕ) → cond (x && false) m n ≡ n
    and_false true m n = refl
    and_false false m n = refl

    more : (x : Bool) (j : ℕ) → suc (cond x j (suc j)) ≡ cond x (suc j) (suc (suc j))
    more true j = refl
    more false j = refl

    go : (a : Bool) → eqb c 10 ≡ a → (b : Bool) → eqb d 10 ≡ b → ((j : ℕ) → until 10 (d ∷ l) ≡ suc j → suc j < length (d ∷ l) → first (d ∷ l) ≡ cond (eqb (get_or (d ∷ l) j 0) 13) j (suc j)) → first (c ∷ d ∷ l) ≡ cond (eqb (get_or (c ∷ d ∷ l) k 0) 13) k (suc k)
    go true p b q ih = let z = until_lf c (d ∷ l) p in absurd (omega arith)
    go false p true q ih =
        let z = until_no c (d ∷ l) p in
        let y = until_lf d l q in
        let e : 0 ≡ k = omega arith in
        first_no c (d ∷ l) p ∙ (λ j. cond (eqb c 13 && starts d l true q j) 0 (suc (first_lf d l q j))) ∙ and_true (eqb c 13) ∙ ap (λ (m : ℕ). cond (eqb (get_or (c ∷ d ∷ l) m 0) 13) m (suc m)) e
    go false p false q ih =
        let z = until_no c (d ∷ l) p in
        let y = until_no d l q in
        let e : suc (until 10 l) ≡ k = omega arith in
        first_no c (d ∷ l) p ∙ (λ j. cond (eqb c 13 && starts d l false q j) 0 (suc (first (d ∷ l)))) ∙ and_false (eqb c 13) 0 (suc (first (d ∷ l))) ∙ ap suc (ih (until 10 l) y (omega arith)) ∙ more (eqb (get_or (d ∷ l) (until 10 l) 0) 13) (until 10 l) ∙ ap (λ (m : ℕ). cond (eqb (get_or (c ∷ d ∷ l) m 0) 13) m (suc m)) e

first_zero : (l : List ℕ) → until 10 l ≡ 0 → 0 < length l → first l ≡ 0
first_zero [] u h = absurd (omega arith)
first_zero (c ∷ l) u h = go (eqb c 10) refl
  where
    go : (a : Bool) → eqb c 10 ≡ a → first (c ∷ l) ≡ 0
    go true p = first_lf c l p
    go false p = let z = until_no c l p in absurd (omega arith)

-- ---- no LF
alone : (c : ℕ) (at : ℕ) (m : List ℕ) → (until 10 m ≡ length m → 0 < length m → lines (at + 1) m ≡ placed (at + 1) m ∷ []) → until 10 m ≡ length m → push at (c ∷ []) (lines (at + 1) m) ≡ placed at (c ∷ m) ∷ []
unfolding push lines
alone c at [] ih e = refl
alone c at (d ∷ m) ih e = push_line at (c ∷ []) (ih e (omega arith))

no_lf : (m : List ℕ) → until 10 m ≡ length m → starts_lf m ≡ false
unfolding starts_lf
no_lf [] e = refl
no_lf (d ∷ m) e = pick (eqb d 10) refl
  where
    pick : (b : Bool) → eqb d 10 ≡ b → eqb d 10 ≡ false
    pick true q = let z = until_lf d m q in absurd (omega arith)
    pick false q = q

uncut : (l : List ℕ) (at : ℕ) → until 10 l ≡ length l → 0 < length l → lines at l ≡ placed at l ∷ []
uncut [] at u h = absurd (omega arith)
uncut (c ∷ l) at u h = go (eqb c 10) refl l (uncut l (at + 1)) u
  where
    go : (a : Bool) → eqb c 10 ≡ a → (m : List ℕ) → (until 10 m ≡ length m → 0 < length m → lines (at + 1) m ≡ placed (at + 1) m ∷ []) → until 10 (c ∷ m) ≡ length (c ∷ m) → lines at (c ∷ m) ≡ placed at (c ∷ m) ∷ []
    go true p m ih e = let z = until_lf c m p in absurd (omega arith)
    go false p m ih e =
        let z = until_no c m p in
        let f : until 10 m ≡ length m = omega arith in
        lines_no c m at p (ap (λ (b : Bool). eqb c 13 && b) (no_lf m f) ∙ false_behind (eqb c 13)) ∙ alone c at m ih f

-- ---- what `line` answers
module _ (l : List ℕ) (k : ℕ) (e : k ≡ until 10 l) (b : k ≤ length l) (p : 0 < length l) where
  pub cut_last : k ≡ length l → Cut l k k
  unfolding lines
  cut_last h = record { size = omega arith; more = omega arith; inside = omega arith; is = λ at. uncut l at (sym e ∙ h) p ∙ sym (λ j. placed at ((ap (λ (n : ℕ). take n l) h ∙ take-length l) j) ∷ lines (at + k) ((ap (λ (n : ℕ). drop n l) h ∙ drop-length l) j)) }

  whole : (k ≡ length l → ⊥) → (at : ℕ) → lines at l ≡ placed at (take (first l) l) ∷ lines (at + (k + 1)) (drop (k + 1) l)
  whole h at = cut l at (omega arith) ∙ ap (λ (n : ℕ). placed at (take (first l) l) ∷ lines (at + n) (drop n l)) (sym (add-one (until 10 l)) ∙ ap (λ (n : ℕ). n + 1) (sym e))

  pub cut_empty : (k ≡ length l → ⊥) → k ≡ 0 → Cut l 0 1
  cut_empty h z = record { size = omega arith; more = omega arith; inside = omega arith; is = λ at. whole h at ∙ (λ j. placed at (take (first_zero l (sym e ∙ z) p j) l) ∷ lines (at + (z j + 1)) (drop (z j + 1) l)) }

  step : (k ≡ length l → ⊥) → (k ≡ 0 → ⊥) → first l ≡ cond (eqb (get_or l (k - 1) 0) 13) (k - 1) k
  step h z = let s : k ≡ suc (k - 1) = omega arith in first_cr l (k - 1) (sym e ∙ s) (omega arith) ∙ ap (cond (eqb (get_or l (k - 1) 0) 13) (k - 1)) (sym s)

  sized : (n : ℕ) → first l ≡ n → (k ≡ length l → ⊥) → (at : ℕ) → lines at l ≡ placed at (take n l) ∷ lines (at + (k + 1)) (drop (k + 1) l)
  sized n g h at = whole h at ∙ ap (λ (m : ℕ). placed at (take m l) ∷ lines (at + (k + 1)) (drop (k + 1) l)) g

  pub cut_crlf : (k ≡ length l → ⊥) → (k ≡ 0 → ⊥) → get_or l (k - 1) 0 ≡ 13 → Cut l (k - 1) (k + 1)
  cut_crlf h z c = record { size = omega arith; more = omega arith; inside = omega arith; is = sized (k - 1) (step h z ∙ ap (λ (x : Bool). cond x (k - 1) k) (eq-eqb _ _ c)) h }

  pub cut_lf : (k ≡ length l → ⊥) → (k ≡ 0 → ⊥) → (get_or l (k - 1) 0 ≡ 13 → ⊥) → Cut l k (k + 1)
  cut_lf h z c = record { size = omega arith; more = omega arith; inside = omega arith; is = sized k (step h z ∙ ap (λ (x : Bool). cond x (k - 1) k) (ne_eqb _ _ c)) h }

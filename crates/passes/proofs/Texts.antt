-- Lines, blanks and bytes of a list, one byte on. Assumes nothing.
use mathlib.Core.Path.{◌≡◌, refl, sym, ap, ◌∙◌, subst}
use mathlib.Core.Bool.{Bool, true, false, ◌&&◌, cond}
use mathlib.Core.List.{List, [], ◌∷◌, ◌++◌}
use Prim.Native.Nat.{ℕ, zero, suc, ◌+◌, ◌-◌, ◌≤◌, ◌<◌}
use native.Mathlib.Omega.{arith}
use lib.Dec.{leb}
use lib.ListN.{length, get_or, take, drop, length-drop}
use lib.Seq.{take-suc, take-length, length-take-le}
use borrow.Author.Tests.{le-leb, lt-leb}
use Rattle.std.specs.Bool.{MatchBool}
use Rattle.std.specs.Str.{IsAscii, IsNotAscii}
use Rattle.std.specs.List.{prefix_len, suffix_len}
use Rattle.std.proofs.lemmas.List.Recursion.{and_is}
use Rattle.std.proofs.lemmas.List.Sums.{suffix_len-take_yes, suffix_len-take_no}
use Rattle.decimal.proofs.Scan.{present}
use Rattle.laws.proofs.Lists.{rest}
use Rattle.passes.specs.Text.{blank, blanks, keep_trimmed, trim_end, trim, ascii, Trimmed, Blanks, TrimsTo}

-- ---- as the library counts and tests them

pub blanks_is : (l : List ℕ) → blanks l ≡ prefix_len blank l
unfolding blanks
blanks_is [] = refl
blanks_is (c ∷ l) = ap (λ (n : ℕ). cond (blank c) n 0) (let h = blanks_is l in omega arith)

-- what `is_ascii` answers
pub ascii_told : (r : Bool) (l : List ℕ) → MatchBool r (IsAscii l) (IsNotAscii l) → r ≡ ascii l
unfolding ascii
ascii_told r l h = and_is ascii (λ (c : ℕ). leb c 127) refl (λ c l. and_cond (leb c 127) (ascii l)) l 0 r (below r h) (above r h)
  where
    and_cond : (b x : Bool) → cond b x false ≡ (b && x)
    and_cond true x = refl
    and_cond false x = refl

    below : (r : Bool) → MatchBool r (IsAscii l) (IsNotAscii l) → r ≡ true → (i : ℕ) → i < length l → leb (get_or l i 0) 127 ≡ true
    below true h e i g = let k = h i in le-leb (get_or l i 0) 127 (omega arith)
    below false h e i g = let z : ◌≡◌ {A = ℕ} 0 1 = cc in absurd (omega arith)

    above : (r : Bool) → MatchBool r (IsAscii l) (IsNotAscii l) → r ≡ false → (i : ℕ) × (i < length l) × (leb (get_or l i 0) 127 ≡ false)
    above true h e = let z : ◌≡◌ {A = ℕ} 0 1 = cc in absurd (omega arith)
    above false h e = (h.0, present l h.0 (get_or l h.0 0) refl (omega (arith, h.1)), lt-leb (get_or l h.0 0) 127 (omega (arith, h.1)))

-- ---- from the end

keep_snoc : (a : ℕ) (l : List ℕ) (c : ℕ) → keep_trimmed a (l ++ (c ∷ [])) ≡ a ∷ (l ++ (c ∷ []))
unfolding keep_trimmed
keep_snoc a [] c = refl
keep_snoc a (x ∷ l) c = refl

end_snoc : (l : List ℕ) (c : ℕ) → trim_end (l ++ (c ∷ [])) ≡ cond (blank c) (trim_end l) (l ++ (c ∷ []))
unfolding trim_end keep_trimmed
end_snoc [] c = refl
end_snoc (a ∷ l) c = ap (keep_trimmed a) (end_snoc l c) ∙ go (blank c)
  where
    go : (b : Bool) → keep_trimmed a (cond b (trim_end l) (l ++ (c ∷ []))) ≡ cond b (keep_trimmed a (trim_end l)) (a ∷ (l ++ (c ∷ [])))
    go true = refl
    go false = keep_snoc a l c

module _ (l : List ℕ) (e : ℕ) (h : 0 < e) (g : e ≤ length l) where
  last : take e l ≡ take (e - 1) l ++ (get_or l (e - 1) 0 ∷ [])
  last = let n : e ≡ suc (e - 1) = omega arith in ap (λ (k : ℕ). take k l) n ∙ take-suc l (e - 1) 0 (omega arith)

  pub end_next : blank (get_or l (e - 1) 0) ≡ true → trim_end (take e l) ≡ trim_end (take (e - 1) l)
  end_next b = ap trim_end last ∙ end_snoc (take (e - 1) l) (get_or l (e - 1) 0) ∙ simp b

  pub end_here : blank (get_or l (e - 1) 0) ≡ false → trim_end (take e l) ≡ take e l
  end_here b = ap trim_end last ∙ end_snoc (take (e - 1) l) (get_or l (e - 1) 0) ∙ (simp b) ∙ sym last

-- as the library counts blanks from the end back
trims : (l : List ℕ) (e : ℕ) → e ≤ length l → take (e - suffix_len blank (take e l)) l ≡ trim_end (take e l)
unfolding trim_end
trims l zero h = let z : 0 - suffix_len blank [] ≡ 0 = omega arith in ap (λ (n : ℕ). take n l) z
trims l (suc e) h = go (blank (get_or l e 0)) refl (trims l e (omega arith))
  where
    before : e ≡ suc e - 1
    before = omega arith

    go : (b : Bool) → blank (get_or l e 0) ≡ b → take (e - suffix_len blank (take e l)) l ≡ trim_end (take e l) → take (suc e - suffix_len blank (take (suc e) l)) l ≡ trim_end (take (suc e) l)
    go true q ih =
        let p : blank (get_or l (suc e - 1) 0) ≡ true = subst (λ (n : ℕ). blank (get_or l n 0) ≡ true) before q in
        let s : suffix_len blank (take (suc e) l) ≡ 1 + suffix_len blank (take e l) = suffix_len-take_yes blank l (suc e) 0 (omega arith) h p ∙ ap (λ (n : ℕ). 1 + suffix_len blank (take n l)) (sym before) in
        let n : suc e - suffix_len blank (take (suc e) l) ≡ e - suffix_len blank (take e l) = omega arith in
        ap (λ (k : ℕ). take k l) n ∙ ih ∙ ap (λ (n : ℕ). trim_end (take n l)) before ∙ sym (end_next l (suc e) (omega arith) h p)
    go false q ih =
        let p : blank (get_or l (suc e - 1) 0) ≡ false = subst (λ (n : ℕ). blank (get_or l n 0) ≡ false) before q in
        let s = suffix_len-take_no blank l (suc e) 0 (omega arith) h p in
        let n : suc e - suffix_len blank (take (suc e) l) ≡ suc e = omega arith in
        ap (λ (k : ℕ). take k l) n ∙ sym (end_here l (suc e) (omega arith) h p)

pub trims_to : (l : List ℕ) (n : ℕ) → n ≡ suffix_len blank l → TrimsTo l (length l - n)
trims_to l n e =
    let w : suffix_len blank l ≡ suffix_len blank (take (length l) l) = ap (suffix_len blank) (sym (take-length l)) in
    record {
      inside = omega arith;
      is = ap (λ (k : ℕ). take (length l - k) l) (e ∙ w) ∙ trims l (length l) (omega arith) ∙ ap trim_end (take-length l);
    }

-- ---- parts

pub trimmed : {l : List ℕ} {s e : ℕ} → Blanks l s → TrimsTo (take (length l - s) (drop s l)) e → Trimmed l s (s + e)
unfolding trim
trimmed {l = l} {s = s} {e = e} a b =
    let r = rest l s in
    let k : s + e - s ≡ e = omega arith in
    let n = b.inside in
    let m = length-drop s l in
    let o = ap length r in
    let t : take e (drop s l) ≡ trim l = ap (take e) (sym r) ∙ b.is ∙ ap trim_end (r ∙ ap (λ (j : ℕ). drop j l) a.is) in
    let z : e ≡ length (trim l) = sym (length-take-le e (drop s l) (omega arith)) ∙ ap length t in
    record { order = omega arith; inside = omega (arith, a.inside); begins = a.is; ends = (λ j. a.is j + z j); is = ap (λ (j : ℕ). take j (drop s l)) k ∙ t }

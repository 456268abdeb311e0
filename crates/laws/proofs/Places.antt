-- Places in a list of bytes: where a byte first stands, and a part of a slice given back. Assumes nothing.
use mathlib.Core.Path.{◌≡◌, refl, sym, ap, ◌∙◌}
use mathlib.Core.Bool.{Bool, true, false, not, cond}
use mathlib.Core.List.{List, [], ◌∷◌, ◌++◌, append_assoc}
use Prim.Native.Nat.{ℕ, suc, ◌+◌, ◌-◌, ◌≤◌}
use native.Mathlib.Omega.{arith}
use lib.Dec.{eqb, ltb}
use lib.ListN.{length, take, drop}
use lib.Seq.{sets, sets-eq, drop-drop}
use borrow.Author.Tests.{ltb-false}
use borrow.Rule.Slice.PartMut.{put_mid}
use Rattle.std.proofs.Common.{Option, Some, None}
use Rattle.std.specs.Option.{unwrap_or}
use Rattle.std.specs.List.{position_or_len}
use Rattle.std.proofs.lemmas.List.Sums.{prefix_len-le-length}

-- f counts the bytes before the first b, as the library does
module _ (b : ℕ) (f : List ℕ → ℕ) (none : f [] ≡ 0) (more : (c : ℕ) (l : List ℕ) → f (c ∷ l) ≡ cond (eqb c b) 0 (suc (f l))) where
  counts : (l : List ℕ) → f l ≡ position_or_len (λ (c : ℕ). eqb c b) l
  counts [] = none
  counts (c ∷ l) = more c l ∙ go (eqb c b) (counts l)
    where
      go : (x : Bool) → f l ≡ position_or_len (λ (c : ℕ). eqb c b) l → cond x 0 (suc (f l)) ≡ cond (not x) (1 + position_or_len (λ (c : ℕ). eqb c b) l) 0
      go true h = refl
      go false h = omega arith

  -- what `position` answers, or else the length
  pub position_found : (l : List ℕ) (r : Option ℕ) {k : ℕ} → r ≡ cond (ltb (position_or_len (λ (c : ℕ). eqb c b) l) (length l)) (Some (position_or_len (λ (c : ℕ). eqb c b) l)) None → k ≡ unwrap_or r (length l) → (k ≡ f l) × (k ≤ length l)
  position_found l r {k} e g =
      let n = position_or_len (λ (c : ℕ). eqb c b) l in
      let most = prefix_len-le-length (λ (c : ℕ). not (eqb c b)) l in
      let is : k ≡ n = g ∙ ap (λ (o : Option ℕ). unwrap_or o (length l)) e ∙ go n most (ltb n (length l)) refl in
      (is ∙ sym (counts l), omega arith)
    where
      go : (n : ℕ) → n ≤ length l → (x : Bool) → ltb n (length l) ≡ x → unwrap_or (cond x (Some n) None) (length l) ≡ n
      go n h true q = refl
      go n h false q = let k = ltb-false n (length l) q in omega arith

-- a part of a slice, given back with its values
pub put_back : (o v : List ℕ) (s n : ℕ) → length v ≡ n → s + n ≤ length o → put_mid s (s + n - s) o v ≡ sets o s v
put_back o v s n e h =
    let k : s + (s + n - s) ≡ s + length v = omega (arith, e) in
    ap (λ (r : List ℕ). take s o ++ (v ++ r)) (drop-drop (s + n - s) s o ∙ ap (λ (j : ℕ). drop j o) k)
    ∙ sym (append_assoc (take s o) v (drop (s + length v) o))
    ∙ sym (sets-eq v o s (omega (arith, e, h)))

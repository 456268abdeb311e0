-- What a best sum needs of the order of floats. Assumes nothing.
use mathlib.Core.Path.{◌≡◌, refl, sym, ◌∙◌}
use mathlib.Core.Bool.{Bool, true, false, ◌&&◌, ◌||◌}
use mathlib.Core.Logic.{⊎_elim}
use Prim.Native.Nat.{ℕ, ◌+◌, ◌*◌, ◌≤◌}
use native.Mathlib.Nat.{eq-zero-or-pos, eq-or-lt_of_le, le_refl}
use native.Mathlib.Omega.{arith}
use lib.Dec.{ltb, eqb}
use lib.Ieee.{Float, nan, inf, fin, up, down, lt, eq, le, below, level, is_nan}
use borrow.Author.Tests.{ltb-false, lt-ltb, le-ltb, eq-eqb}
use Rattle.laws.proofs.Tests.{true_behind}
use Rattle.float.proofs.Order.{clash, trans}

pub irrefl : (x : Float) → lt x x ≡ false
unfolding lt
irrefl nan = refl
irrefl (inf true) = refl
irrefl (inf false) = refl
irrefl (fin true m e) = le-ltb _ _ (le_refl (m * up e * down e))
irrefl (fin false m e) = le-ltb _ _ (le_refl (m * up e * down e))

-- What is not below b is not below anything below b.
pub not_below : (s v b : Float) → lt s b ≡ false → lt v b ≡ true → lt s v ≡ false
not_below s v b h g = go (lt s v) refl
  where
    go : (t : Bool) → lt s v ≡ t → lt s v ≡ false
    go false e = e
    go true e = clash (sym h ∙ trans s v b e g)

at_most_same : (a b : ℕ) → a ≤ b → (ltb a b || (eqb a b && true)) ≡ true
at_most_same a b l = ⊎_elim (λ e. rw (eq-eqb a b e) (true_behind (ltb a b))) (λ i. rw (lt-ltb a b i)) (eq-or-lt_of_le l)

at_most_zero : (a b : ℕ) → a + b ≤ 0 → level false a true b ≡ true
at_most_zero a b l =
    let za : a ≡ 0 = omega arith in
    let zb : b ≡ 0 = omega arith in
    rw (za, zb)

at_most_fin : (s t : Bool) (a b : ℕ) → below t b s a ≡ false → (below s a t b || level s a t b) ≡ true
at_most_fin false false a b h = at_most_same a b (ltb-false b a h)
at_most_fin true true a b h = ⊎_elim (λ e. rw (eq-eqb a b (sym e)) (true_behind (ltb b a))) (λ i. rw (lt-ltb b a i)) (eq-or-lt_of_le (ltb-false a b h))
at_most_fin true false a b h =
    ⊎_elim (λ z. let za : a ≡ 0 = omega arith in let zb : b ≡ 0 = omega arith in rw (za, zb)) (λ p. rw (lt-ltb 0 (a + b) p)) (eq-zero-or-pos (a + b))
at_most_fin false true a b h = at_most_zero a b (let l = ltb-false 0 (b + a) h in omega arith)

-- Two numbers of which the second is not below the first.
pub at_most : (x y : Float) → is_nan x ≡ false → is_nan y ≡ false → lt y x ≡ false → le x y ≡ true
unfolding lt eq le is_nan
at_most nan y p q h = clash (sym p)
at_most (inf s) nan p q h = clash (sym q)
at_most (inf true) (inf true) p q h = refl
at_most (inf true) (inf false) p q h = refl
at_most (inf false) (inf true) p q h = clash (sym h)
at_most (inf false) (inf false) p q h = refl
at_most (inf true) (fin t n d) p q h = refl
at_most (inf false) (fin t n d) p q h = clash (sym h)
at_most (fin s m e) nan p q h = clash (sym q)
at_most (fin s m e) (inf true) p q h = clash (sym h)
at_most (fin s m e) (inf false) p q h = refl
at_most (fin s m e) (fin t n d) p q h = at_most_fin s t (m * up e * down d) (n * up d * down e) h

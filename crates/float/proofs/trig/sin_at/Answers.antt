use Rattle.std.proofs.Common.{◌≡◌, ℕ, zero, suc, refl, arith}
use lib.Ieee.{Float, neg}
use Rattle.float.specs.Trig.{sin_at, pick}
use Rattle.float.proofs.trig.sin_at.Goals as goal

pick_last : (q : ℕ) (a b c d : Float) → (q ≡ 0 → ⊥) → (q ≡ 1 → ⊥) → (q ≡ 2 → ⊥) → pick q a b c d ≡ d
pick_last zero a b c d f g h = absurd (f refl)
pick_last (suc zero) a b c d f g h = absurd (g refl)
pick_last (suc (suc zero)) a b c d f g h = absurd (h refl)
pick_last (suc (suc (suc k))) a b c d f g h = refl

pub returns-in-0 : goal.returns-in-0
unfolding sin_at
returns-in-0 c = simp (c.held.ensures, c.in-0.is)

pub returns-in-1 : goal.returns-in-1
unfolding sin_at
returns-in-1 c = simp (c.held-in-1.ensures, c.in-1.is)

pub returns-in-2 : goal.returns-in-2
unfolding sin_at
returns-in-2 c = simp (c.held-in-2.ensures, c.in-2.is)

pub returns-in_default : goal.returns-in_default
unfolding sin_at
returns-in_default c =
    let a = c.args in
    simp (c.held-in_default.ensures, pick_last a.q a.s a.c (neg a.s) (neg a.c) (λ e. omega (arith, e)) (λ e. omega (arith, e)) (λ e. omega (arith, e)))

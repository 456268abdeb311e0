-- Document 01's powers of two and three factors are `power`'s: v×v and (v×v)×v. Assumes nothing.
use Rattle.std.proofs.Common.{◌≡◌, ℕ, ◌*◌, Bool, true, false, T, ℤ, refl, ap, one-mul}
use lib.Ieee.{Float, nan, inf, fin, binary64, up, down, fits, mul, round}
use Rattle.float.specs.Ops.{◌⊗◌, one, raised, power_of}
use Rattle.float.proofs.Own.{own}

as_own : (s : Bool) (m : ℕ) (e : ℤ) → T (fits binary64 (fin s m e)) → round binary64 s (1 * (m * up e)) (1 * down e) ≡ fin s m e
as_own s m e f = rw (one-mul (m * up e), one-mul (down e)) (own s m e f)

one_times : (v : Float) → T (fits binary64 v) → one ⊗ v ≡ v
unfolding mul one
one_times nan f = unfold round in refl
one_times (inf true) f = unfold round in refl
one_times (inf false) f = unfold round in refl
one_times (fin true m e) f = as_own true m e f
one_times (fin false m e) f = as_own false m e f

pub square : (v : Float) → T (fits binary64 v) → power_of v 2 ≡ v ⊗ v
unfolding power_of raised
square v f = ap (λ (x : Float). x ⊗ v) (one_times v f)

pub cube : (v : Float) → T (fits binary64 v) → power_of v 3 ≡ v ⊗ v ⊗ v
unfolding power_of raised
cube v f = ap (λ (x : Float). x ⊗ v ⊗ v) (one_times v f)

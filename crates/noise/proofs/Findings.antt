-- What a residual says. Assumes nothing.
use mathlib.Core.Path.{◌≡◌, refl, sym, ◌∙◌}
use mathlib.Core.Bool.{Bool, true, false, cond, ◌||◌}
use Prim.Native.Nat.{ℕ, ◌≤◌, ◌<◌}
use lib.Ieee.{Float, nan, is_nan, ne, lt, le, inf}
use borrow.Author.Tests.{lt-ltb, le-ltb}
use Rattle.float.proofs.Signs.{nan_test}
use Rattle.noise.specs.Verdict.{bound_of, verdict_of}
use Rattle.noise.specs.declared.Finding.TheVariants.{AtNoise, Doubtful, TwoPasses, Untold}

module _ (rms estimate : Float) (passes : ℕ) where
  pub two : passes < 3 → TwoPasses ≡ verdict_of rms estimate passes
  unfolding verdict_of
  two h = simp (lt-ltb passes 3 h)

  pub no_residual : 3 ≤ passes → ne rms rms ≡ true → Untold ≡ verdict_of rms estimate passes
  unfolding verdict_of
  no_residual h e = let t : is_nan rms ≡ true = sym (nan_test rms) ∙ e in simp (le-ltb passes 3 h, t)

  pub no_noise : 3 ≤ passes → ne rms rms ≡ false → lt estimate (inf false) ≡ false → Untold ≡ verdict_of rms estimate passes
  unfolding verdict_of
  no_noise h e n = let t : is_nan rms ≡ false = sym (nan_test rms) ∙ e in simp (le-ltb passes 3 h, t, n)

  pub at_noise : 3 ≤ passes → ne rms rms ≡ false → lt estimate (inf false) ≡ true → {b : Float} → b ≡ bound_of estimate → le rms b ≡ true → AtNoise ≡ verdict_of rms estimate passes
  unfolding verdict_of
  at_noise h e n eb l = let t : is_nan rms ≡ false = sym (nan_test rms) ∙ e in let m = rw eb at l in simp (le-ltb passes 3 h, t, n, m)

  pub doubtful : 3 ≤ passes → ne rms rms ≡ false → lt estimate (inf false) ≡ true → {b : Float} → b ≡ bound_of estimate → le rms b ≡ false → Doubtful ≡ verdict_of rms estimate passes
  unfolding verdict_of
  doubtful h e n eb l = let t : is_nan rms ≡ false = sym (nan_test rms) ∙ e in let m = rw eb at l in simp (le-ltb passes 3 h, t, n, m)

-- what is no number is never at the noise
pub nan_residual : (estimate : Float) → verdict_of nan estimate 3 ≡ Untold
unfolding verdict_of is_nan
nan_residual estimate = refl

pub nan_estimate : (rms : Float) → verdict_of rms nan 3 ≡ Untold
unfolding verdict_of lt
nan_estimate rms = ignored (is_nan rms)
  where
    ignored : (b : Bool) → cond (b || true) Untold (cond (le rms (bound_of nan)) AtNoise Doubtful) ≡ Untold
    ignored true = refl
    ignored false = refl

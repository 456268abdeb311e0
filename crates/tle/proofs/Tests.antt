-- The library's tests and sums are those of the definitions. Assumes nothing.
use mathlib.Core.Path.{◌≡◌, refl, sym, ap, ◌∙◌}
use mathlib.Core.Bool.{◌&&◌, Bool}
use mathlib.Core.List.{List, [], ◌∷◌}
use Prim.Native.Nat.{ℕ, ◌+◌}
use lib.Ieee.{Float, nan, inf, fin}
use Rattle.std.specs.Float.{float_is_finite}
use Rattle.std.specs.List.{list_all, sum_by}
use Rattle.std.proofs.lemmas.List.Sums.{sum_by-cons}
use Rattle.float.specs.Trig.{is_finite}
use Rattle.tle.specs.Lines.{weight_of, weight_sum}
use Rattle.tle.specs.Answer.{visible_byte, visible}

pub finite : (v : Float) → float_is_finite v ≡ is_finite v
unfolding float_is_finite
finite nan = refl
finite (inf s) = refl
finite (fin s m e) = refl

pub all_visible : (l : List ℕ) → list_all visible_byte l ≡ visible l
unfolding visible
all_visible [] = refl
all_visible (c ∷ l) = ap (λ (b : Bool). visible_byte c && b) (all_visible l)

pub weights : (l : List ℕ) → weight_sum l ≡ sum_by weight_of l
unfolding weight_sum
weights [] = refl
weights (c ∷ l) = ap (λ (s : ℕ). weight_of c + s) (weights l) ∙ sym (sum_by-cons weight_of c l)

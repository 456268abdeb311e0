-- Pieces of the report's lines. Assumes nothing.
use mathlib.Core.Path.{◌≡◌, sym, ap, ◌∙◌}
use mathlib.Core.Bool.{Bool}
use Prim.Native.Nat.{ℕ}
use lib.Ieee.{Float, lt}
use Rattle.float.specs.Ops.{◌⊗◌, bits, abs_of}
use Rattle.append.specs.declared.Text.{Text}
use Rattle.append.specs.Append.{Puts}
use Rattle.append.proofs.Appending.{both, called}
use Rattle.report_text.specs.Number.{largest_shown, largest_shown_bits, millionths_of, minus_text, size_text, rounded_of, real_of}

pub rounded_put : (v : Float) {k : ℕ} {s t u : Text} → k ≡ millionths_of v → Puts (minus_text v k) s t → Puts (size_text k) t u → Puts (rounded_of v) s u
unfolding rounded_of
rounded_put v e f g = both (called (ap (minus_text v) e) f) (called (ap size_text e) g)

pub real_put : {v w : Float} {t u : Text} → v ≡ w → Puts (real_of v) t u → Puts (real_of w) t u
real_put e f = called (ap real_of e) f

pub scaled : (v : Float) {m k : Float} {t u : Text} → m ≡ k → Puts (real_of (v ⊗ m)) t u → Puts (real_of (v ⊗ k)) t u
scaled v e f = called (ap (λ (x : Float). real_of (v ⊗ x)) e) f

pub large : (v a : Float) {b : Bool} → a ≡ abs_of v → lt (bits 0x426d1a94a2000000) a ≡ b → lt largest_shown (abs_of v) ≡ b
large v a e t = ap (λ (x : Float). lt largest_shown x) (sym e) ∙ ap (λ (x : Float). lt x a) (sym largest_shown_bits) ∙ t

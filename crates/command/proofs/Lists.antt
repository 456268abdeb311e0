-- Bytes copied to the first places of an array, and the name kept. Assumes nothing.
use Rattle.std.proofs.Common.{◌≡◌, ℕ, ◌≤◌, true, false, List, ◌++◌, length, take, drop, min, Some, None, refl, sym, ap, ◌∙◌, arith, length-append, length-drop, length-take-le}
use Rattle.std.proofs.lemmas.List.{take_min}
use native.Mathlib.Nat.{min-le_left, min-le_right}
use lib.Seq.{take-append_seam}
use Rattle.passes.specs.File.{name_at}
use Rattle.passes.specs.declared.pieces.Span.{Span}
use Rattle.passes.specs.declared.file.PassFile.{PassFile}
use Rattle.command.specs.Gather.{First, no_later, is_new, Keeps}
use Rattle.command.specs.declared.gather.Name.{Name}

-- the first n bytes of the array, as many as find room
pub put_first : (from old out : List ℕ) (n : ℕ) → n ≡ min (length old) (length from) → out ≡ take n from ++ drop n old → First n out (take (length old) from)
put_first from old out n e h =
    let a : n ≤ length from = omega (arith, e, min-le_right (length old) (length from)) in
    let b : n ≤ length old = omega (arith, e, min-le_left (length old) (length from)) in
    let s = length-take-le n from a in
    record {
      room = rw h (omega (arith, length-append (take n from) (drop n old), length-drop n old, s));
      is = ap (take n) h ∙ ap (λ (k : ℕ). take k (take n from ++ drop n old)) (sym s) ∙ take-append_seam (take n from) (drop n old) ∙ ap (λ (k : ℕ). take k from) e ∙ take_min (length old) from;
    }

-- ---- the name kept

module _ (name : Name) (file : List ℕ) (r : PassFile) (key : ℕ) (out : List ℕ) where
  pub no_new_name : r.name ≡ None → Keeps name file r key out out name
  unfolding is_new
  no_new_name g = record { since = rw g refl; is = rw g refl; room = λ h. h }

  module _ {n : Span} (g : r.name ≡ Some n) where
    pub kept_name : no_later name.key key ≡ true → Keeps name file r key out out name
    unfolding is_new
    kept_name e = record { since = rw (g, e) refl; is = rw (g, e) refl; room = λ h. h }

    pub new_name : (out' : List ℕ) {from : List ℕ} {m : ℕ} → no_later name.key key ≡ false → from ≡ name_at file n
        → First m out' (take (length out) from) → Keeps name file r key out out' (record { size = m; key = Some key })
    unfolding is_new
    new_name out' e f h = record { since = rw (g, e) refl; is = h.is ∙ rw (g, e, f) refl; room = λ _. h.room }

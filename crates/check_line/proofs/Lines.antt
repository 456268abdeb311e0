-- A line has room: a name is a part of its file. Assumes nothing.
use mathlib.Core.Path.{◌≡◌, refl, sym, ap, ◌∙◌}
use mathlib.Core.Bool.{Bool, true, false, not, cond}
use mathlib.Core.List.{List}
use Prim.Native.Nat.{ℕ, ◌-◌, ◌≤◌, ◌<◌, min}
use native.Mathlib.Nat.{min-eq_left, min-eq_right, le_of_lt, min-le_left, min-le_right, zero-add}
use native.Mathlib.Omega.{arith}
use lib.Dec.{T, ltb, ltb→lt, nltb→le}
use lib.ListN.{length, take, drop, length-append, length-take, length-drop}
use lib.Seq.{take_all, length-sets}
use Rattle.std.proofs.Common.{Option, Some, None, Result, Ok, Err}
use Rattle.append.specs.declared.Text.{Text}
use Rattle.append.specs.Append.{Appends, Begins, Puts}
use Rattle.append.proofs.Appending.{called, alone, numeral_length}
use Rattle.passes.specs.File as File
use Rattle.passes.specs.declared.file.PassFile.{PassFile}
use Rattle.passes.specs.declared.pieces.Span.{Span}
use Rattle.refusal.specs.declared.Refusal.{Refusal}
use Rattle.refusal.specs.Refusals.{number_of}
use Rattle.check_line.specs.Check.{part_shown, accepted_line, refused_line, answer_line, file_line, check_line, Checks}

either : (n : ℕ) (t : Bool) (a b : List ℕ) → length a ≤ n → length b ≤ n → length (cond t a b) ≤ n
either n true a b p q = p
either n false a b p q = q

part : (i j : ℕ) (l : List ℕ) → length (take i (drop j l)) ≤ length l
part i j l = omega (arith, length-take i (drop j l), min-le_right i (length (drop j l)), length-drop j l)

name_length : (file : List ℕ) (n : Span) → length (File.name_at file n) ≤ length file
unfolding File.name_at
name_length file n =
    either (length file) (ltb (length file) n.end) _ _ (omega arith)
    (either (length file) (ltb n.end n.start) _ _ (omega arith) (part (n.end - n.start) n.start file))

part_length : (file : List ℕ) (n : Option Span) → length file ≤ 32768 → length (part_shown file n) ≤ 32768
part_length file (Some n) h = omega (arith, name_length file n)
part_length file None h = omega arith

accepted_length : (file : List ℕ) (r : PassFile) → length file ≤ 32768 → length (accepted_line file r) ≤ 32800
unfolding accepted_line
accepted_length file r h =
    simp length-append (omega (arith, part_length file r.name h, numeral_length r.count))

refused_length : (k : ℕ) → length (refused_line k) ≤ 32800
unfolding refused_line
refused_length k = simp length-append (omega (arith, numeral_length k))

answer_length : (file : List ℕ) (r : Result PassFile Refusal) → length file ≤ 32768 → length (answer_line file r) ≤ 32800
answer_length file (Ok r) h = accepted_length file r h
answer_length file (Err k) h = refused_length (number_of k)

line_length : (file : List ℕ) → length file ≤ 32768 → length (file_line file) ≤ 32800
line_length file h = answer_length file (File.answer file 4096 4096) h

checked : (file out out' : List ℕ) (n : ℕ) → 32800 ≡ length out → Appends (check_line file) 0 out out' n → Checks file out out' n
unfolding check_line
checked file out out' n s a =
    let h : length (file_line (take 32768 file)) ≤ 32800 = line_length (take 32768 file) (omega (arith, length-take 32768 file, min-le_left 32768 (length file))) in
    let h' : length (file_line (take 32768 file)) ≤ length out = rw (← s) h in
    let e : n ≡ length (file_line (take 32768 file)) = a.behind ∙ rw zero-add (min-eq_left h') in
    record { is = a.is; counted = e; room = rw (a.is, length-sets, e) h' }

-- what is shorter than its first n bytes
no_longer : (n : ℕ) (l : List ℕ) → take (min (length l) n) l ≡ take n l
no_longer n l = go (ltb (length l) n) (ltb→lt (length l) n) (nltb→le (length l) n)
  where
    go : (t : Bool) → (T t → length l < n) → (T (not t) → n ≤ length l) → take (min (length l) n) l ≡ take n l
    go true f g = rw (min-eq_left (le_of_lt (f tt))) (take_all (length l) l (omega arith) ∙ sym (take_all n l (le_of_lt (f tt))))
    go false f g = rw (min-eq_right (g tt)) refl

pub checks : (file out : List ℕ) {k : ℕ} {t u : Text} → 32800 ≡ length out → k ≡ min (length file) 32768 → Begins out t → Puts (file_line (take k file)) t u → Checks file out u.out.now u.at
unfolding check_line
checks file out s e b a = checked file out _ _ s (alone b (called (ap file_line (ap (λ (k : ℕ). take k file) e ∙ no_longer 32768 file)) a))

-- The report has room. Assumes nothing.
use mathlib.Core.Path.{◌≡◌, sym, ◌∙◌}
use mathlib.Core.Bool.{Bool, true, false}
use mathlib.Core.List.{List}
use Prim.Native.Nat.{ℕ, ◌≤◌}
use native.Mathlib.Nat.{min-eq_left, zero-add}
use native.Mathlib.Omega.{arith}
use lib.ListN.{length, length-append}
use lib.Seq.{length-sets}
use Rattle.append.specs.declared.Text.{Text}
use Rattle.append.specs.Append.{Begins, Puts}
use Rattle.append.proofs.Appending.{alone, numeral_length}
use Rattle.replay.specs.declared.Tally.{Tally}
use Rattle.replay.specs.Report.{list_ending, report_text, Reports}

ending_length : (whole : Bool) → length (list_ending whole) ≤ 6
ending_length true = omega arith
ending_length false = omega arith

report_length : (t : Tally) → length (report_text t) ≤ 160
unfolding report_text
report_length t =
    simp length-append
    (omega (arith, numeral_length t.agreed, numeral_length t.differed, numeral_length t.caught, numeral_length t.missed, ending_length t.whole))

pub reports : (t : Tally) (out : List ℕ) {p q : Text} → 160 ≡ length out → Begins out p → Puts (report_text t) p q → Reports t out q.out.now q.at
reports t out s b a =
    let whole = alone b a in
    let h : length (report_text t) ≤ length out = rw (← s) (report_length t) in
    record { is = whole.is; counted = whole.behind ∙ rw zero-add (min-eq_left h); sized = rw (whole.is, length-sets) (sym s) }

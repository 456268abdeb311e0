-- The lines that `format_tle_catalog` writes are read back to their printed digits, and with one digit changed they are refused. Assumes nothing.
use mathlib.Core.Path.{◌≡◌, ap}
use mathlib.Core.Bool.{true}
use mathlib.Core.List.{List}
use Prim.Native.Nat.{ℕ, ◌+◌, ◌<◌}
use native.Mathlib.Nat.{mod-eq_of_lt}
use native.Mathlib.Omega.{arith}
use lib.Ieee.Bits.{is_true}
use borrow.Author.Tests.{eq-eqb}
use Rattle.std.specs.Prelude.{None, Ok, Err}
use Rattle.tle.specs.Answer.{Formats}
use Rattle.tle.specs.Elements.{whole_turn, line_epoch}
use Rattle.tle.specs.Lines.{line1, line2}
use Rattle.tle.specs.Printed.{matches_line, number_in, Checked, Printed}
use Rattle.tle.proofs.Printed.{Digits, digits, printed, format_lines, format_printed}
use Rattle.solution.specs.declared.SolvedOrbit.{SolvedOrbit}
use Rattle.element_lines.specs.Columns.{readable1, readable2}
use Rattle.element_lines.specs.Reading.{summed, circular, elements_refusal, anomaly_from_node, elements_in, read_element_lines_of}
use Rattle.element_lines.specs.Written.{first_in, second_in, printed_elements, DigitChanged, changed_refusal}
use Rattle.element_lines.proofs.Covered.{columns_covered_1, columns_covered_2}
use Rattle.element_lines.proofs.OneDigit.{one_digit_1, one_digit_2}

-- ---- lines that demand 3 calls right are taken
sum_right : (l : List ℕ) → Checked l → summed l ≡ true
unfolding summed
sum_right l e = eq-eqb _ _ e

no_eccentricity : (l : List ℕ) → number_in 27 33 l ≡ 0 → circular l ≡ true
unfolding circular
no_eccentricity l e = eq-eqb _ _ e

pub printed_taken : (o : SolvedOrbit) (l1 l2 : List ℕ) → Printed o l1 l2 → elements_refusal l1 l2 ≡ None
unfolding elements_refusal
printed_taken o l1 l2 p =
    let m1 : matches_line readable1 l1 ≡ true = is_true (matches_line readable1 l1) (columns_covered_1 l1 p.columns_1) in
    let m2 : matches_line readable2 l2 ≡ true = is_true (matches_line readable2 l2) (columns_covered_2 l2 p.columns_2) in
    simp (m1, m2, sum_right l1 p.checksum_1, sum_right l2 p.checksum_2, no_eccentricity l2 p.eccentricity)

-- ---- with no perigee, a mean anomaly below a turn is its own sum
anomaly_back : (l2 : List ℕ) → number_in 35 42 l2 ≡ 0 → number_in 44 51 l2 < whole_turn → anomaly_from_node l2 ≡ number_in 44 51 l2
unfolding anomaly_from_node
anomaly_back l2 z h =
    let f : number_in 44 51 l2 + 0 ≡ number_in 44 51 l2 = omega arith in
    rw (z, f) (mod-eq_of_lt h)

-- ---- each number is the printed one
digits_back : (o : SolvedOrbit) (l1 l2 : List ℕ) → Printed o l1 l2 → Digits o l1 l2 → elements_in l1 l2 ≡ printed_elements o
unfolding elements_in printed_elements
digits_back o l1 l2 p d =
    simp (p.year, d.day_of_year, d.inclination, d.node, d.mean_motion, anomaly_back l2 p.perigee p.mean_anomaly.below_turn, d.mean_anomaly)

reads_back : (o : SolvedOrbit) (l1 l2 : List ℕ) → Printed o l1 l2 → Digits o l1 l2 → read_element_lines_of l1 l2 ≡ Ok (printed_elements o)
unfolding read_element_lines_of
reads_back o l1 l2 p d = rw (printed_taken o l1 l2 p) (ap Ok (digits_back o l1 l2 p d))

-- ---- the theorems: of the two lines in the text that an accepted call leaves
module _ (name out out' : List ℕ) (o : SolvedOrbit) (n : ℕ) (f : Formats name o out out' (Ok n)) where
  pub read_back : read_element_lines_of (first_in name out') (second_in name out') ≡ Ok (printed_elements o)
  read_back =
      let l = format_lines name out out' o n f in
      rw (l.first_is, l.second_is)
      (reads_back o (line1 (line_epoch o.epoch)) (line2 o) (printed o l.epoch_taken l.orbit_fits_lem) (digits o l.epoch_taken l.orbit_fits_lem))

  written_taken : elements_refusal (first_in name out') (second_in name out') ≡ None
  written_taken = printed_taken o _ _ (format_printed name out out' o n f)

  -- with one digit replaced by another
  pub written_digit_1 : (k : ℕ) (l1 : List ℕ) → DigitChanged k (first_in name out') l1 → read_element_lines_of l1 (second_in name out') ≡ Err (changed_refusal k)
  written_digit_1 k l1 c = one_digit_1 k _ l1 _ written_taken c

  pub written_digit_2 : (k : ℕ) (l2 : List ℕ) → DigitChanged k (second_in name out') l2 → read_element_lines_of (first_in name out') l2 ≡ Err (changed_refusal k)
  written_digit_2 k l2 c = one_digit_2 k _ _ l2 written_taken c

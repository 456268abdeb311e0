-- What the theorems of proofs/ say: of the lines that `format_tle_catalog` writes, and of a line with one digit changed.
use Rattle.std.specs.Prelude.{◌≡◌, cond, List, ℕ, ◌+◌, ◌%◌, ◌<◌, T, eqb, length, get_or, set, take, drop}
use Rattle.decimal.specs.Fixed.{nearest_units}
use Rattle.decimal.specs.Read.{is_digit}
use Rattle.refusal.specs.declared.Refusal.{Refusal}
use Rattle.refusal.specs.declared.Refusal.TheVariants.{LineColumns, LineChecksum}
use Rattle.tle.specs.Elements.{printed_degrees, within_turn, mean_motion_of, line_epoch}
use Rattle.solution.specs.declared.SolvedOrbit.{SolvedOrbit}
use Rattle.element_lines.specs.declared.Elements.{Elements}

-- the element lines in a text of name, line feed, line 1, line feed, line 2, line feed
abbrev pub first_in : List ℕ → List ℕ → List ℕ
first_in name text = take 69 (drop (length name + 1) text)

abbrev pub second_in : List ℕ → List ℕ → List ℕ
second_in name text = take 69 (drop (length name + 71) text)

-- the digits that are printed of an orbit: each number in units of its last printed place
unfoldable pub printed_elements : SolvedOrbit → Elements
printed_elements o =
    let e = line_epoch o.epoch in
    record {
      year = e.year % 100;
      day = nearest_units 8 e.day;
      inclination = nearest_units 4 (printed_degrees o.i);
      node = nearest_units 4 (within_turn (printed_degrees o.raan0));
      mean_anomaly = nearest_units 4 (within_turn (printed_degrees o.u0));
      mean_motion = nearest_units 8 (mean_motion_of o.a);
    }

-- l with the digit at place k, counted from 0, replaced by another
pub record DigitChanged (k : ℕ) (l l' : List ℕ) : Type 0 where
  pub d : ℕ
  pub inside : k < length l
  pub was_digit : T (is_digit (get_or l k 0))
  pub is_digit_lem : T (is_digit d)
  pub other : d ≡ get_or l k 0 → ⊥
  pub is : l' ≡ set l k d

-- the refusal of an accepted pair with one digit changed at place k of either line: of the columns where it is the line's number, else of the checksum
abbrev pub changed_refusal : ℕ → Refusal
changed_refusal k = cond (eqb k 0) LineColumns LineChecksum

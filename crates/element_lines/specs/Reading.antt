-- What two element lines say, by document 02 [2], and their refusals.
use Rattle.std.specs.Prelude.{Bool, not, ◌&&◌, List, [], ◌∷◌, ℕ, ◌+◌, ◌%◌, eqb, take, Option, Result}
use Rattle.refusal.specs.Refusals.{first_of, ◌when◌, answer}
use Rattle.refusal.specs.declared.Refusal.{Refusal}
use Rattle.refusal.specs.declared.Refusal.TheVariants.{LineColumns, LineChecksum, Eccentric}
use Rattle.tle.specs.Elements.{whole_turn}
use Rattle.tle.specs.Lines.{checksum_of}
use Rattle.tle.specs.Printed.{matches_line, number_in}
use Rattle.element_lines.specs.Columns.{readable1, readable2}
use Rattle.element_lines.specs.declared.Elements.{Elements}

-- column 69 is the checksum of the 68 before it
unfoldable pub summed : List ℕ → Bool
summed l = eqb (number_in 69 69 l) (checksum_of (take 68 l))

unfoldable pub circular : List ℕ → Bool
circular l2 = eqb (number_in 27 33 l2) 0

-- each is tried on both lines before the next
unfoldable pub elements_refusal : List ℕ → List ℕ → Option Refusal
elements_refusal l1 l2 =
    first_of (
    (LineColumns when not (matches_line readable1 l1 && matches_line readable2 l2))
    ∷ (LineChecksum when not (summed l1 && summed l2)) ∷ (Eccentric when not (circular l2))
    ∷ [])

-- a circular orbit has no perigee to count from: both angles together count from the node
unfoldable pub anomaly_from_node : List ℕ → ℕ
anomaly_from_node l2 = (number_in 44 51 l2 + number_in 35 42 l2) % whole_turn

-- the numbers as they are printed, without their points
unfoldable pub elements_in : List ℕ → List ℕ → Elements
elements_in l1 l2 =
    record {
      year = number_in 19 20 l1;
      day = number_in 21 32 l1;
      inclination = number_in 9 16 l2;
      node = number_in 18 25 l2;
      mean_anomaly = anomaly_from_node l2;
      mean_motion = number_in 53 63 l2;
    }

unfoldable pub read_element_lines_of : List ℕ → List ℕ → Result Elements Refusal
read_element_lines_of l1 l2 = answer (elements_refusal l1 l2) (elements_in l1 l2)

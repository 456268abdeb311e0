-- Which lines agree with one of the original's, by computation: document 01's example with other angles. Assumes nothing.
use mathlib.Core.Path.{◌≡◌, refl}
use mathlib.Core.Bool.{Bool, true, false}
use mathlib.Core.List.{[], ◌∷◌, ◌++◌}
use Prim.Native.String.{String}
use Rattle.text.specs.Text.{bytes}
use Rattle.answer_lines.specs.Lines.{begins_with}
use Rattle.tle.specs.Lines.{checksum_of, weight_sum}
use Rattle.replay_lines.specs.Agreement.{same_columns, is_turn, same_angle, same_angles, own_sum, same_sum, same_rest, line2_agrees, text_agrees}

-- from the inclination on, under the name X
abbrev agree : String → String → Bool
agree s w =
    let before = bytes "X\n1 99999U 26999A   26163.00000000  .00000000  00000-0  00000-0 0  9998\n2 99999  90.0000 " in
    text_agrees (before ++ (bytes s ++ bytes "\n")) (before ++ (bytes w ++ bytes "\n"))

-- the same line; 0.0000 for 360.0000 in the node, the mean anomaly and both
agreeing :
    agree "  0.0000 0000000   0.0000   0.0000 14.82366876000007" "  0.0000 0000000   0.0000   0.0000 14.82366876000007"
    ∷ agree "360.0000 0000000   0.0000   0.0000 14.82366876000006" "  0.0000 0000000   0.0000   0.0000 14.82366876000007"
    ∷ agree "  0.0000 0000000   0.0000 360.0000 14.82366876000006" "  0.0000 0000000   0.0000   0.0000 14.82366876000007"
    ∷ agree "360.0000 0000000   0.0000 360.0000 14.82366876000005" "  0.0000 0000000   0.0000   0.0000 14.82366876000007" ∷ []
    ≡ true ∷ true ∷ true ∷ true ∷ []
unfolding text_agrees line2_agrees same_rest same_angles same_angle is_turn same_sum own_sum same_columns begins_with checksum_of weight_sum
agreeing = refl

-- 360.0000 written; the original's checksum; 0.0000 with zeros for blanks; one unit off; a wrong checksum of both; 0.0000 for 360.0000 in the perigee; a line feed less
differing :
    agree "360.0000 0000000   0.0000   0.0000 14.82366876000006" "360.0000 0000000   0.0000   0.0000 14.82366876000006"
    ∷ agree "360.0000 0000000   0.0000   0.0000 14.82366876000006" "  0.0000 0000000   0.0000   0.0000 14.82366876000006"
    ∷ agree "360.0000 0000000   0.0000   0.0000 14.82366876000006" "000.0000 0000000   0.0000   0.0000 14.82366876000007"
    ∷ agree "360.0000 0000000   0.0000   0.0000 14.82366876000006" "359.9999 0000000   0.0000   0.0000 14.82366876000000"
    ∷ agree "  0.0000 0000000   0.0000   0.0000 14.82366876000006" "  0.0000 0000000   0.0000   0.0000 14.82366876000006"
    ∷ agree "  0.0000 0000000 360.0000   0.0000 14.82366876000006" "  0.0000 0000000   0.0000   0.0000 14.82366876000007"
    ∷ agree "  0.0000 0000000   0.0000   0.0000 14.82366876000007" "  0.0000 0000000   0.0000   0.0000 14.8236687600000" ∷ []
    ≡ false ∷ false ∷ false ∷ false ∷ false ∷ false ∷ false ∷ []
unfolding text_agrees line2_agrees same_rest same_angles same_angle is_turn same_sum own_sum same_columns begins_with checksum_of weight_sum
differing = refl

-- Document 01's two lines, read, by computation. Assumes nothing.
use mathlib.Core.Path.{◌≡◌, refl}
use Rattle.std.specs.Prelude.{Ok}
use Rattle.tle.specs.Example.{first_line_lem, second_line}
use Rattle.tle.specs.Lines.{weight_sum, checksum_of}
use Rattle.tle.specs.Printed.{matches_behind, read_digits, number_in}
use Rattle.element_lines.specs.Columns.{readable1, readable2}
use Rattle.element_lines.specs.Reading.{summed, circular, elements_refusal, anomaly_from_node, elements_in, read_element_lines_of}

pub example : read_element_lines_of first_line_lem second_line ≡ Ok (record { year = 26; day = 16300000000; inclination = 900000; node = 0; mean_anomaly = 0; mean_motion = 1482366876 })
unfolding read_element_lines_of elements_refusal elements_in anomaly_from_node summed circular readable1 readable2 matches_behind number_in read_digits checksum_of weight_sum
example = refl

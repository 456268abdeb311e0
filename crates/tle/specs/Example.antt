-- Document 01's example: epoch 2026-06-12T00:00:00Z, a = 7,000,000 m, i = π/2, other angles 0, and its two lines.
use Rattle.std.specs.Prelude.{List, ℕ, pos}
use Rattle.text.specs.Text.{bytes}
use Rattle.float.specs.Ops.{bits}
use Rattle.moment.specs.declared.Moment.{Moment}
use Rattle.solution.specs.declared.SolvedOrbit.{SolvedOrbit}

abbrev pub epoch : Moment
epoch = record { seconds = pos 1781222400; nanos = 0 }

abbrev pub example_orbit : SolvedOrbit
example_orbit = record { a = bits 0x415ab3f000000000; i = bits 0x3ff921fb54442d18; raan0 = bits 0; u0 = bits 0; epoch = epoch }

abbrev pub first_line_lem : List ℕ
first_line_lem = bytes "1 99999U 26999A   26163.00000000  .00000000  00000-0  00000-0 0  9998"

abbrev pub second_line : List ℕ
second_line = bytes "2 99999  90.0000   0.0000 0000000   0.0000   0.0000 14.82366876000007"

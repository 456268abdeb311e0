-- The numbers of the refusals of documents 01 and 02; src/lib.rt names the refusals themselves.
use Rattle.std.specs.Prelude.{ℕ}

-- a pass file or a position line holds a byte above 127
abbrev pub non_ascii : ℕ
non_ascii = 1

-- a line has more than 256 bytes, its end not counted
abbrev pub long_line : ℕ
long_line = 2

-- a number has too many digits or too large an exponent
abbrev pub number_size : ℕ
number_size = 3

-- a moment is outside 1957 to 2056, or has more than 999,999,999 nanoseconds
abbrev pub moment_range : ℕ
moment_range = 4

-- sizes disagree with the arrays, or exceed 16 passes or 4,096 samples
abbrev pub sizes : ℕ
sizes = 5

-- the receiver, the initial a or the initial i is NaN
abbrev pub nan_argument_lem : ℕ
nan_argument_lem = 6

-- the initial a or i is out of range
abbrev pub initial_range : ℕ
initial_range = 7

-- a sample's frequency is NaN
abbrev pub nan_frequency : ℕ
nan_frequency = 8

-- fewer than two passes are non-empty
abbrev pub few_passes : ℕ
few_passes = 9

-- there are fewer samples than 4 and the number of non-empty passes
abbrev pub few_samples : ℕ
few_samples = 10

-- the orbit or the name cannot be printed as element lines
abbrev pub unprintable : ℕ
unprintable = 11

-- a base, a number of digits, a history or a matrix is out of range
abbrev pub limits : ℕ
limits = 12

-- a latitude, longitude or height is out of range or NaN, or a line is not three such numbers
abbrev pub position_range : ℕ
position_range = 13

-- an element line has not 69 bytes, or a byte that may not stand in its column
abbrev pub line_columns : ℕ
line_columns = 14

-- an element line's column 69 is not its checksum
abbrev pub line_checksum : ℕ
line_checksum = 15

-- the eccentricity of element lines is not zero
abbrev pub eccentric : ℕ
eccentric = 16

-- a lent output or scratch is too short
abbrev pub short_memory : ℕ
short_memory = 21

-- the chosen pivot is below 1e-12 in size
abbrev pub small_pivot : ℕ
small_pivot = 22

-- an adjusted moment is over 8,000,000,000,000 s from 1970
abbrev pub far_moment : ℕ
far_moment = 23

-- the best sum is above 1e11, or no trial gave a sum below the largest f64
abbrev pub large_sum : ℕ
large_sum = 24

-- a returned frequency offset exceeds 500 kHz in size
abbrev pub large_offset : ℕ
large_offset = 25

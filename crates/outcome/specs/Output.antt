-- What the command makes of a pass set: the passes by time, mirrored where they are as received, fitted, and the orbit's lines.
use Rattle.std.specs.Prelude.{◌≡◌, refl, Bool, cond, List, [], ℕ, ◌≤◌, Float, length, take, Result, Ok, Err}
use Rattle.std.specs.Float.Ieee.{of_bits, round}
use Rattle.float.specs.Constant.{decimal}
use Rattle.float.specs.Ops.{bits}
use Rattle.frame.specs.declared.Vec3.{Vec3}
use Rattle.solution.specs.declared.SolvedOrbit.{SolvedOrbit}
use Rattle.received.specs.Mirror.{mirrored_all}
use Rattle.ordering.specs.Order.{PassSet, order_of, in_time}
use Rattle.refusal.specs.Refusals.{answer, written}
use Rattle.refusal.specs.declared.Refusal.{Refusal}
use Rattle.arguments.specs.declared.Room.{Room}
use Rattle.fit.specs.Answer.{Arguments, arguments, fit_refusal, book_of, fit_found, Outputs, output_room}
use Rattle.fit.specs.declared.Fit.{Fit}
use Rattle.tle.specs.Lines.{catalog_of}
use Rattle.tle.specs.Answer as lines
use Rattle.determination.specs.Calls.{bytes_written, Determines}
use Rattle.determination.specs.declared.Determination.{Determination}

-- ---- what is fitted

-- frequencies as received are mirrored, each at its own pass's centre; else nothing changes
unfoldable pub heard : Bool → PassSet → PassSet
heard received s =
    record {
      counts = s.counts;
      times = s.times;
      freqs = cond received (mirrored_all s.counts s.centers s.freqs) s.freqs;
      centers = s.centers;
    }

-- the first guess of the semi-major axis, which the fit checks and never uses: 7,000 km
unfoldable pub initial_a : Float
initial_a = decimal 7000000 0

pub initial_a_bits : bits 0x415ab3f000000000 ≡ initial_a
unfolding initial_a of_bits round
initial_a_bits = refl

-- the arguments of the fit
abbrev pub given : PassSet → Vec3 → Float → Arguments
given s rec i = arguments s.counts s.times s.freqs s.centers rec initial_a i

-- the passes go in by time
unfoldable pub fitted_set : Bool → PassSet → PassSet
fitted_set received s = in_time (heard received s)

-- ---- what is written

-- the fit's answer
unfoldable pub fit_of : Arguments → Room → Result Fit Refusal
fit_of x room = answer (fit_refusal x room) (fit_found (book_of x).search (book_of x).count x.times)

-- an orbit's lines, or nothing where they are refused; `size` bytes are lent for them
unfoldable pub text_of : List ℕ → SolvedOrbit → ℕ → List ℕ
text_of name o size = written (lines.lines_refusal name o size) (catalog_of name o) []

-- standard output: the lines where fit and lines are accepted, nothing otherwise
abbrev pub printed : List ℕ → Result Fit Refusal → ℕ → List ℕ
printed name (Ok f) size = text_of name f.orbit size
printed name (Err k) size = []

unfoldable pub output_of : List ℕ → Arguments → Room → ℕ → List ℕ
output_of name x room size = printed name (fit_of x room) size

-- the first n bytes
pub record Writes (n : ℕ) (text written : List ℕ) : Type 0 where
  pub room : n ≤ length text
  pub is : take n text ≡ written

-- What `outcome` promises: the lent frequencies mirrored or as they were, the numbers that the passes had, the set that is fitted, the
-- determination, and the bytes to write.
pub record Comes (received : Bool) (s s' : PassSet) (freqs' : List Float) (order : List ℕ) (rec : Vec3) (i : Float) (w w' : Outputs) (scratch scratch' : List Float) (name text text' : List ℕ) (d : Result Determination Refusal) : Type 0 where
  pub mirrored : freqs' ≡ (heard received s).freqs
  pub ordered : order ≡ order_of s.counts s.times
  pub set : s' ≡ fitted_set received s
  pub determined : Determines (given (fitted_set received s) rec i) w w' scratch scratch' name text text' d
  pub writes : Writes (bytes_written d) text' (output_of name (given (fitted_set received s) rec i) (output_room w scratch) (length text))

-- The fit of document 01, fed its arguments and nothing else: estimate of the radius from the passes' times, search of starts,
-- first refinement on the first two passes, second refinement on all, in the reference's order.
use Rattle.std.specs.Prelude.{Bool, true, false, List, [], ◌∷◌, ℕ, leb, ℤ, length, take, Float}
use Rattle.orbit.specs.declared.Elements.{Elements}
use Rattle.pass_set.specs.PassSet.{total}
use Rattle.search.specs.Sum.{fixed_sum}
use Rattle.search.specs.Search.{search_of}
use Rattle.search.specs.declared.Fixed.{Fixed}
use Rattle.search.specs.declared.Found.{Found}
use Rattle.residuals.specs.Samples.{Passes, passes_of, counts_at}
use Rattle.residuals.specs.Residuals.{elements_of, rows_of, penalised_sum}
use Rattle.orbit.specs.declared.doppler.Station.{Station}
use Rattle.refine.specs.Advance.{advance_of}
use Rattle.book.specs.Book.{Book, book}
use Rattle.start.specs.Start.{radius_estimate, starting_set}

-- what is observed: the counts of the non-empty passes, all samples, and the station: the first sample's moment as epoch, the first
-- non-empty pass's centre, and the receiver
pub record Observations : Type 0 where
  pub counts : List ℕ
  pub times : List ℤ
  pub freqs : List Float
  pub station : Station

abbrev pub observed : List ℕ → List ℤ → List Float → Station → Observations
observed counts times freqs g = record { counts = counts; times = times; freqs = freqs; station = g }

-- as the residuals take them
abbrev pub observed_passes : Observations → Passes
observed_passes x = passes_of x.counts (counts_at x.times) x.freqs

-- the first two passes, with their samples
unfoldable pub first_two : Observations → Observations
first_two x =
    let c = take 2 x.counts in
    observed c (take (total c) x.times) (take (total c) x.freqs) x.station

-- ---- the steps

unfoldable pub radius : Observations → Float
radius x = radius_estimate x.counts x.times x.freqs x.station.center_freq

-- what the search holds fixed: semi-major axis and inclination, beside what is observed
abbrev pub observed_fixed : Float → Float → Observations → Fixed
observed_fixed a i x = record { station = x.station; a = a; i = i }

-- the best of the 144 starts on two passes x
unfoldable pub best_start : Float → Float → Observations → Found
best_start a i x = search_of (fixed_sum x.counts x.times x.freqs (x.station.center_freq ∷ x.station.center_freq ∷ []) (observed_fixed a i x)) 0 144

unfoldable pub start_elements : Float → Float → Observations → Elements
start_elements a i x = record { a = a; i = i; raan0 = (best_start a i x).raan0; u0 = (best_start a i x).u0 }

-- a refinement of the passes x from these elements, of at most n trials
unfoldable pub refined : Bool → Bool → ℕ → Elements → Observations → Book
refined second enough n e x =
    book (penalised_sum second x.station (observed_passes x)) (advance_of second x.station (observed_passes x)) enough
    (starting_set x.counts x.times x.freqs x.station e second) n

-- search and first refinement of two passes x: it ends at once where it has fewer residuals than its 8 parameters
unfoldable pub refined_two : Float → Float → Observations → Book
refined_two a i x = refined false (leb 8 (rows_of false (length x.times) (length x.counts))) 100 (start_elements a i x) x

-- the first refinement's book, on the first two passes, for a radius a and a first guess i of the inclination
unfoldable pub first_book : Float → Float → Observations → Book
first_book a i x = refined_two a i (first_two x)

-- the second refinement's, on all passes, from the elements that the first found
unfoldable pub trial_book : Float → Float → Observations → Book
trial_book a i x = refined true true 150 (elements_of (first_book a i x).search.best_set) x

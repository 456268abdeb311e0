-- Demand 3: one claim on the whole list of trials and on the lines printed from its outcome. The words in quotes are the demand's.
use Rattle.std.specs.Prelude.{◌≡◌, Bool, true, false, ◌||◌, List, [], ◌∷◌, map, ℕ, zero, suc, ◌+◌, ◌≤◌, length, take, drop, Float}
use Rattle.std.proofs.Math.Option.{Option, none, some}
use Rattle.std.specs.Float.Ieee.{lt, le}
use Rattle.float.specs.Ops.{largest, at}
use Rattle.orbit.specs.Doppler.{station_at}
use Rattle.residuals.specs.Residuals.{penalised_sum}
use Rattle.book.specs.Demand.{largest_sum, Falling, minima, kept_sets, last_of, last_set}
use Rattle.solution.specs.declared.SolvedOrbit.{SolvedOrbit}
use Rattle.fit.specs.Fit.{observed_passes}
use Rattle.fit.specs.Answer.{Arguments, observations, pass_count, book_of, biases, orbit_of, Outputs}
use Rattle.fit.specs.declared.Fit.{Fit}
use Rattle.tle.specs.Lines.{catalog_of}
use Rattle.tle.specs.Printed.{Printed}

-- ---- sums of sets

-- what a trial of the second refinement compares, from the fit's arguments and a set
abbrev pub sum_in : Arguments → List Float → Option Float
sum_in x = penalised_sum true (observations x).station (observed_passes (observations x))

-- the set that a caller holds: the orbit's four numbers, and four biases for each of n passes, from pass p on, out of four slices
unfoldable pub biases_from : Outputs → ℕ → ℕ → List Float
biases_from w p zero = []
biases_from w p (suc n) = at w.dts p ∷ at w.dfs p ∷ at w.df1s p ∷ at w.df2s p ∷ biases_from w (p + 1) n

unfoldable pub returned_set : SolvedOrbit → Outputs → ℕ → List Float
returned_set o w n = o.a ∷ o.i ∷ o.raan0 ∷ o.u0 ∷ biases_from w 0 n

-- its penalised sum, from the samples, the returned orbit with its own epoch, and the returned biases alone
unfoldable pub sum_again : Arguments → SolvedOrbit → Outputs → Option Float
sum_again x o w = penalised_sum true (station_at o.epoch (observations x).station.center_freq x.rec) (observed_passes (observations x)) (returned_set o w (pass_count x))

-- whether one of these sets has a sum below v
abbrev pub is_below : Float → Option Float → Bool
is_below v none = false
is_below v (some s) = lt s v

unfoldable pub any_below : (List Float → Option Float) → Float → List (List Float) → Bool
any_below sum v [] = false
any_below sum v (s ∷ ss) = is_below v (sum s) || any_below sum v ss

-- ---- whenever the fit accepts

-- the arguments x, the lent outputs before and after, and the answer
pub record Accepted (x : Arguments) (w w' : Outputs) (r : Fit) : Type 0 where
  -- 'the count of tries, 1 to 150', is the trial book's
  pub count : r.trials ≡ (book_of x).count
  pub some_trial : 1 ≤ r.trials
  pub most_trials : r.trials ≤ 150
  -- 'the logged sums, place by place', are the book's; later places stay
  pub logged : take r.trials w'.log ≡ (book_of x).log
  pub unlogged : drop r.trials w'.log ≡ drop r.trials w.log
  -- they are the sums of the tried sets in order, 'tries whose sum is not a number included'
  pub sums : map (sum_in x) (book_of x).tried ≡ map some (book_of x).log
  -- 'the reported sum'
  pub sum : r.best ≡ (book_of x).search.best
  -- 'the returned orbit', whose epoch is the first sample's moment
  pub orbit : r.orbit ≡ orbit_of (book_of x).search.best_set x.times
  -- 'and biases', a number for each non-empty pass
  pub dts : take (pass_count x) w'.dts ≡ biases 0 (book_of x).search.best_set (pass_count x)
  pub dfs : take (pass_count x) w'.dfs ≡ biases 1 (book_of x).search.best_set (pass_count x)
  pub df1s : take (pass_count x) w'.df1s ≡ biases 2 (book_of x).search.best_set (pass_count x)
  pub df2s : take (pass_count x) w'.df2s ≡ biases 3 (book_of x).search.best_set (pass_count x)
  -- 'that orbit's penalised square sum, worked out again from the samples and the returned biases, equals the reported one'
  pub again : sum_again x r.orbit w' ≡ some r.best
  -- 'and is at most 1e11'
  pub small : le r.best largest_sum ≡ true
  -- 'no tried set has a smaller one'
  pub least : any_below (sum_in x) r.best (book_of x).tried ≡ false
  -- the kept sums are those of the log that went below the largest f64 and below all kept before, and no others
  pub kept : (book_of x).kept ≡ minima largest (book_of x).log
  -- 'each kept sum is below the one kept before', the first below the largest f64
  pub falling : Falling largest (book_of x).kept
  -- the one kept last is the reported sum, and the set tried with it is the one whose orbit and biases are returned
  pub last : last_of largest (book_of x).kept ≡ r.best
  pub kept_last : last_set (kept_sets largest (book_of x).log (book_of x).tried) ≡ some (book_of x).search.best_set

-- ---- if the lines are accepted too

-- the element lines, after the name line
abbrev pub line1_in : List ℕ → List ℕ → List ℕ
line1_in name text = take 69 (drop (length name + 1) text)

abbrev pub line2_in : List ℕ → List ℕ → List ℕ
line2_in name text = take 69 (drop (length name + 71) text)

pub record Demand (x : Arguments) (name : List ℕ) (w w' : Outputs) (r : Fit) (text : List ℕ) : Type 0 where
  pub accepted : Accepted x w w' r
  -- the name's line and 'the element lines', each with a line feed
  pub lines : take (length name + 141) text ≡ catalog_of name r.orbit
  -- they 'have right columns and checksums and carry the returned orbit, as document 01's f64 degrees, revolutions a day and day
  -- of year, to half a unit of each last printed place, beside the last two digits of its epoch's year'; by document 02 [3] node and mean anomaly
  -- around the circle, below 360 degrees
  pub printed : Printed r.orbit (line1_in name text) (line2_in name text)

-- Demand 3 follows from what fit and lines promise, for every input that both accept. Assumes nothing.
use mathlib.Core.Path.{◌≡◌, refl, sym, ap, ◌∙◌}
use mathlib.Core.Bool.{true, false, not}
use mathlib.Core.List.{List, [], ◌∷◌, ◌++◌, map}
use mathlib.Core.Option.{Option, some}
use Prim.Native.Nat.{ℕ, ◌+◌}
use native.Mathlib.Omega.{arith}
use lib.IntN.{pos}
use lib.ListN.{length, get_or, take, drop}
use lib.Seq.{take_at, drop_at}
use lib.Ieee.{Float, lt}
use Rattle.float.specs.Ops.{at}
use Rattle.std.proofs.Common.{Option as Optional, Some, None, Ok}
use Rattle.refusal.specs.Refusals.{Check, ◌when◌, first_of, written}
use Rattle.refusal.specs.declared.Refusal.{Refusal}
use Rattle.refusal.specs.declared.Refusal.TheVariants.{ShortMemory}
use Rattle.refusal.proofs.Lists.{clear, before, accepted as none_and_value}
use Rattle.moment.specs.declared.Instant.{Instant}
use Rattle.moment.proofs.Samples.{moment_instant}
use Rattle.residuals.specs.Residuals.{penalised_sum}
use Rattle.orbit.specs.Doppler.{station_at}
use Rattle.orbit.specs.declared.doppler.Station.{Station}
use Rattle.book.specs.Demand.{largest_sum, All, Tried}
use Rattle.book.proofs.Demand.{tried}
use Rattle.refine.specs.Advance.{advance_of}
use Rattle.arguments.specs.Refusals.{enough, input_refusals, input_refusal_of, InputAccepted}
use Rattle.arguments.specs.declared.Room.{Room}
use Rattle.arguments.proofs.Laws as arguments
use Rattle.fit.specs.Fit.{observed_passes, refined, trial_book}
use Rattle.fit.specs.Answer.{
  Arguments,
  observations,
  pass_count,
  first_book_of,
  book_of,
  biases,
  work_refusals,
  fit_refusal,
  fit_found,
  Outputs,
  output_room,
  over,
  filled_outputs,
  Fits,
}
use Rattle.fit.specs.declared.Fit.{Fit}
use Rattle.fit.proofs.Laws.{length_biases}
use Rattle.tle.specs.Lines.{catalog_of}
use Rattle.tle.specs.Answer as tle
use Rattle.tle.specs.Answer.{Formats}
use Rattle.tle.proofs.Answers.{catalog_length}
use Rattle.tle.proofs.Printed.{format_printed}
use Rattle.determination.specs.Demand.{sum_in, sum_again, any_below, returned_set, Accepted, Demand}
use Rattle.determination.proofs.Sets.{sum_same, returned_agrees, over_at}

-- ---- an accepted fit passed every test

-- checks of which none refuses, first ones among them
none_before : (cs ds : List Check) → first_of (cs ++ ds) ≡ None → first_of cs ≡ None
none_before cs ds e = go (first_of cs) refl
  where
    go : (o : Optional Refusal) → first_of cs ≡ o → first_of cs ≡ None
    go None h = h
    go (Some k) h = absurd (let z : None ≡ Some k = sym e ∙ before cs ds k h in cc)

record Passed (x : Arguments) : Type 0 where
  given : InputAccepted x.counts x.times x.freqs x.centers x.rec x.a x.i
  low : lt largest_sum (book_of x).search.best ≡ false

passed : (x : Arguments) (room : Room) → fit_refusal x room ≡ None → Passed x
unfolding fit_refusal input_refusal_of
passed x room e =
    let rest = (ShortMemory when not (enough (length x.times) (pass_count x) room)) ∷ work_refusals (first_book_of x) (book_of x) (pass_count x) in
    let inputs = input_refusals x.counts x.times x.freqs x.centers x.rec x.a x.i in
    record {
      given = arguments.accepted x.counts x.times x.freqs x.centers x.rec x.a x.i (none_before (inputs []) rest e);
      low = (clear (inputs rest) e).1.1.1.1.1.1.1.1.1.1.0;
    }

-- ---- its book

book_tried : (x : Arguments) → lt largest_sum (book_of x).search.best ≡ false → Tried (sum_in x) 150 (book_of x)
unfolding trial_book refined
book_tried x low = tried (sum_in x) (advance_of true (observations x).station (observed_passes (observations x))) true _ 150 low

none_below : (sum : List Float → Option Float) (v : Float) (xs : List (List Float)) (l : List Float) → map sum xs ≡ map some l
    → All (λ s. lt s v ≡ false) l → any_below sum v xs ≡ false
unfolding any_below All
none_below sum v [] l e h = refl
none_below sum v (x ∷ xs) [] e h = absurd (let z : ◌≡◌ {A = ℕ} 0 1 = cc in omega arith)
none_below sum v (x ∷ xs) (s ∷ l) e h =
    let a : sum x ≡ some s = cc in
    let b : map sum xs ≡ map some l = cc in
    rw (a, h.0, none_below sum v xs l b h.1)

-- ---- what it returns

module _ (x : Arguments) (w : Outputs) (p : Passed x) (t : Tried (sum_in x) 150 (book_of x)) where
  abbrev best : List Float
  best = (book_of x).search.best_set

  abbrev n : ℕ
  n = pass_count x

  abbrev out : Outputs
  out = filled_outputs best n (book_of x).log w

  abbrev answered : Fit
  answered = fit_found (book_of x).search (book_of x).count x.times

  front : (k : ℕ) (old : List Float) → take n (over (biases k best n) old) ≡ biases k best n
  front k old = take_at (biases k best n) (drop (length (biases k best n)) old) n (length_biases k best n)

  -- the orbit's epoch is that of the tried sets
  station_same : station_at answered.orbit.epoch (observations x).station.center_freq x.rec ≡ (observations x).station
  station_same =
      ap (λ (m : Instant). record { epoch = m; center_freq = (observations x).station.center_freq; rec_ecef = x.rec })
      (moment_instant (get_or x.times 0 (pos 0)) (p.given.timed.each 0 (omega (arith, p.given.samples))))

  again : sum_again x answered.orbit out ≡ some (book_of x).search.best
  unfolding sum_again
  again =
      ap (λ (g : Station). penalised_sum true g (observed_passes (observations x)) (returned_set answered.orbit out n)) station_same
      ∙ sum_same (observations x).station (observed_passes (observations x)) (returned_set answered.orbit out n) best
      (returned_agrees best n answered.orbit out
      (record {
        dt = λ q h. over_at 0 best n w.dts q h ∙ ap (at best) (omega arith);
        df = over_at 1 best n w.dfs;
        df1 = over_at 2 best n w.df1s;
        df2 = over_at 3 best n w.df2s;
      })
      refl)
      ∙ t.again

  found : Accepted x w out answered
  found =
      record {
        count = refl;
        some_trial = t.some_trial;
        most_trials = t.most_trials;
        logged = take_at (book_of x).log (drop (length (book_of x).log) w.log) (book_of x).count t.logged;
        unlogged = drop_at (book_of x).log (drop (length (book_of x).log) w.log) (book_of x).count t.logged ∙ ap (λ (k : ℕ). drop k w.log) t.logged;
        sums = t.sums;
        sum = refl;
        orbit = refl;
        dts = front 0 w.dts;
        dfs = front 1 w.dfs;
        df1s = front 2 w.df1s;
        df2s = front 3 w.df2s;
        again = again;
        small = t.small;
        least = none_below (sum_in x) (book_of x).search.best (book_of x).tried (book_of x).log t.sums t.least;
        kept = t.keeps;
        falling = t.falling;
        last = t.last;
        kept_last = t.kept_last;
      }

-- ---- the theorem

module _ (x : Arguments) (w w' : Outputs) (scratch scratch' : List Float) (r : Fit) (f : Fits x w w' scratch scratch' (Ok r)) where
  is_found : (fit_refusal x (output_room w scratch) ≡ None) × (fit_found (book_of x).search (book_of x).count x.times ≡ r)
  is_found = none_and_value _ _ _ f.answered

  is_filled : w' ≡ filled_outputs (book_of x).search.best_set (pass_count x) (book_of x).log w
  is_filled = f.filled ∙ ap (λ (k : Optional Refusal). written k (filled_outputs (book_of x).search.best_set (pass_count x) (book_of x).log w) w) is_found.0

  -- whenever the fit accepts
  pub accepted : Accepted x w w' r
  accepted = let p = passed x (output_room w scratch) is_found.0 in rw (← is_found.1, is_filled) (found x w p (book_tried x p.low))

  module _ (name text text' : List ℕ) (n : ℕ) (g : Formats name r.orbit text text' (Ok n)) where
    lines_accepted : tle.lines_refusal name r.orbit (length text) ≡ None
    lines_accepted = (none_and_value _ _ _ g.answer).0

    text_is : text' ≡ catalog_of name r.orbit ++ drop (length name + 141) text
    text_is = g.text ∙ ap (λ k. written k (catalog_of name r.orbit ++ drop (length name + 141) text) text) lines_accepted

    -- if the lines are accepted too
    pub demand : Demand x name w w' r text'
    demand =
        record {
          accepted = accepted;
          lines = ap (take (length name + 141)) text_is
              ∙ take_at (catalog_of name r.orbit) (drop (length name + 141) text) (length name + 141) (catalog_length name r.orbit);
          printed = format_printed name text text' r.orbit n g;
        }

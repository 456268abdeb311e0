-- The ways out of the fit. Assumes nothing.
use mathlib.Core.Path.{◌≡◌, refl, sym, ap, ◌∙◌}
use mathlib.Core.List.{List, [], ◌∷◌, ◌++◌}
use Prim.Native.Nat.{ℕ, zero, suc, ◌≤◌, ◌<◌}
use native.Mathlib.Nat.{le_of_suc-le-suc, not-suc-le-zero}
use native.Mathlib.Omega.{arith}
use lib.IntN.{ℤ, pos}
use lib.ListN.{length, get_or, take, replicate, length-replicate}
use lib.Seq.{take_at}
use lib.Ieee.{Float}
use borrow.Author.Tests.{not-false}
use Rattle.std.proofs.Common.{Some, None, Result, Ok, Err}
use Rattle.refusal.specs.Refusals.{Check, first_of}
use Rattle.refusal.specs.declared.Refusal.{Refusal}
use Rattle.refusal.proofs.Lists.{clear, before, after}
use Rattle.float.specs.Ops.{bits}
use Rattle.moment.specs.Sample.{instant_at}
use Rattle.frame.specs.declared.Vec3.{Vec3}
use Rattle.moment.specs.declared.Instant.{Instant}
use Rattle.book.specs.Book.{Search, Book}
use Rattle.book.proofs.Books.{counted}
use Rattle.book.proofs.Demand.{most}
use Rattle.trials.specs.Trials.{RunsTo}
use Rattle.trials.specs.declared.Trials.{Trials}
use Rattle.arguments.specs.Passes.{non_empty, center_of, Compacts}
use Rattle.arguments.specs.declared.NonEmpty.{NonEmpty}
use Rattle.arguments.specs.declared.Room.{Room}
use Rattle.arguments.specs.Refusals as goal
use Rattle.arguments.specs.Refusals.{input_refusals, input_refusal_of, room_refusals, room_refusal_of, InputAccepted, Roomy as HasRoom}
use Rattle.arguments.proofs.Laws.{roomy, few_kept}
use Rattle.start.specs.Start.{SampledPasses, radius_estimate}
use Rattle.start.specs.declared.Recording.{Recording}
use Rattle.start.proofs.Given.{accepted_passes}
use Rattle.pass_set.specs.PassSet.{SoundSet}
use Rattle.fit.specs.Fit.{Observations, observed, radius, refined, first_book, trial_book}
use Rattle.fit.specs.Answer.{Arguments, observations, pass_count, first_book_of, book_of, work_refusals, fit_refusal, early_refusal, Outputs, output_room, filled_outputs, Fits}
use Rattle.fit.specs.Work.{Roomy, WorkDone, OutputsRoom, Puts}
use Rattle.fit.specs.declared.Fit.{Fit}

-- ---- the trial book's answer

-- the log's sums are those that the book has
log_is : (b : Book) (t : Trials) (old sums : List Float) → RunsTo b old sums t → b.count ≡ length b.log → take t.count sums ≡ b.log
log_is b t old sums run e = ap (take t.count) run.logged ∙ take_at b.log _ t.count (sym e ∙ sym run.count)

found_written : (b : Book) (t : Trials) (old sums : List Float) (p : ℕ) (o o' : Outputs) → RunsTo b old sums t → b.count ≡ length b.log
    → o' ≡ filled_outputs t.state.best_params p (take t.count sums) o → o' ≡ filled_outputs b.search.best_set p b.log o
found_written b t old sums p o o' run k is =
    is
    ∙ ap (λ (l : List Float). filled_outputs t.state.best_params p l o) (log_is b t old sums run k)
    ∙ ap (λ (s : Search). filled_outputs s.best_set p b.log o) run.search

logged : (a i : Float) (x : Observations) → (trial_book a i x).count ≡ length (trial_book a i x).log
unfolding trial_book refined
logged a i x = counted _ _ _ _ 150

most_trials : (a i : Float) (x : Observations) → (trial_book a i x).count ≤ 150
unfolding trial_book refined
most_trials a i x = most _ _ _ _ 150

-- ---- the ways out

module _ (x : Arguments) (o : Outputs) (scratch : List Float) where
  abbrev room : Room
  room = output_room o scratch

  abbrev inputs : List Check
  inputs = input_refusals x.counts x.times x.freqs x.centers x.rec x.a x.i []

  abbrev short : List Check
  short = room_refusals (length x.times) (pass_count x) room

  abbrev works : List Check
  works = work_refusals (first_book_of x) (book_of x) (pass_count x)

  early_by : {r : Refusal} → first_of (inputs ++ short) ≡ Some r → Fits x o o scratch scratch (Err r)
  unfolding fit_refusal goal.refusal_of
  early_by {r} e =
      let f : fit_refusal x room ≡ Some r = before (inputs ++ short) works r e in
      record { answered = rw f; filled = rw f; zeros = rw e }

  pub fits_input : {r : Refusal} → Some r ≡ input_refusal_of x.counts x.times x.freqs x.centers x.rec x.a x.i → Fits x o o scratch scratch (Err r)
  unfolding input_refusal_of
  fits_input {r} e = early_by (before inputs short r (sym e))

  module _ (z : input_refusal_of x.counts x.times x.freqs x.centers x.rec x.a x.i ≡ None) where
    pub fits_room : {r : Refusal} → Some r ≡ first_of short → Fits x o o scratch scratch (Err r)
    unfolding input_refusal_of
    fits_room e = early_by (after inputs short z ∙ sym e)

    module _ (e : first_of short ≡ None) (scratch' : List Float) (zeros : scratch' ≡ replicate (length scratch) (bits 0)) where
      not_early : early_refusal x room ≡ None
      unfolding input_refusal_of goal.refusal_of
      not_early = after inputs short z ∙ e

      worked : fit_refusal x room ≡ first_of works
      unfolding input_refusal_of fit_refusal
      worked = after (inputs ++ short) works (after inputs short z ∙ e)

      pub fits_worked : {r : Refusal} → first_of works ≡ Some r → Fits x o o scratch scratch' (Err r)
      fits_worked h = record { answered = rw (worked, h); filled = rw (worked, h); zeros = rw not_early zeros }

      pub fits_found : (t : Trials) (old sums : List Float) (o' : Outputs) (r : Fit) → (first_of works ≡ None) × RunsTo (book_of x) old sums t → Puts t (pass_count x) x.times sums o o' r
          → Fits x o o' scratch scratch' (Ok r)
      fits_found t old sums o' r h p = record {
        answered = rw (worked, h.0, ← h.1.search, ← h.1.count) (ap Ok p.answered);
        filled = rw (worked, h.0) (found_written _ _ _ _ _ _ _ h.1 (logged (radius (observations x)) x.i (observations x)) p.written);
        zeros = rw not_early zeros;
      }

-- ---- what the fit meets

-- the work of what the arguments record
pub work_all : (x : Arguments) (counts : List ℕ) (epoch : Instant) (center a : Float) (old log : List Float) (w : Result Trials Refusal) → counts ≡ non_empty x.counts
    → epoch ≡ instant_at (get_or x.times 0 (pos 0)) → center ≡ center_of x.counts x.centers → a ≡ radius_estimate counts x.times x.freqs center
    → WorkDone (observed counts x.times x.freqs (record { epoch = epoch; center_freq = center; rec_ecef = x.rec })) a x.i old log w
    → WorkDone (observations x) (radius (observations x)) x.i old log w
unfolding radius
work_all x counts epoch center a old log w e t f g d = rw (g, e, t, f) at d

pub work_err : (x : Observations) (a i : Float) (old log : List Float) (w : Result Trials Refusal) {r : Refusal} → WorkDone x a i old log w → w ≡ Err r
    → first_of (work_refusals (first_book a i x) (trial_book a i x) (length x.counts)) ≡ Some r
work_err x a i old log w d e = rw e at d

pub work_ok : (x : Observations) (a i : Float) (old log : List Float) (w : Result Trials Refusal) {t : Trials} → WorkDone x a i old log w → w ≡ Ok t
    → (first_of (work_refusals (first_book a i x) (trial_book a i x) (length x.counts)) ≡ None) × RunsTo (trial_book a i x) old log t
work_ok x a i old log w d e = rw e at d

pub few_passes : {counts : List ℕ} {times : List ℤ} {freqs centers : List Float} {rec : Vec3} {a i : Float} {r : NonEmpty}
    → InputAccepted counts times freqs centers rec a i → Compacts counts r → r.passes ≤ 16
few_passes {counts} k c = omega (arith, c.number, few_kept counts, k.sizes.few)

take_same : {A : Type 0} (n m : ℕ) (v : A) → n ≤ m → take n (replicate m v) ≡ replicate n v
take_same zero m v h = refl
take_same (suc n) zero v h = absurd (not-suc-le-zero h)
take_same (suc n) (suc m) v h = ap (λ (l : List _). v ∷ l) (take_same n m v (le_of_suc-le-suc h))

roomy_all : (s p : ℕ) (o : Outputs) (scratch : List Float) → room_refusal_of s p (output_room o scratch) ≡ None → HasRoom s p (output_room o scratch)
roomy_all s p o scratch e = roomy _ _ _ (not-false _ (clear (room_refusals s p (output_room o scratch)) e).0)

pub in_sixteen : (n : ℕ) (l : List ℕ) → n ≤ 16 → length l ≡ 16 → n ≤ length l
in_sixteen n l h e = rw e h

-- what no early refusal says
module _ {counts : List ℕ} {times : List ℤ} {freqs centers : List Float} {rec : Vec3} {a i : Float} {r : NonEmpty} (k : InputAccepted counts times freqs centers rec a i) (c : Compacts counts r) where
  pub sampled_all : SampledPasses (take r.passes r.counts) times freqs
  sampled_all = rw c.kept (accepted_passes k)

  pub centred_all : (v : Float) → take r.passes (replicate 16 v) ≡ replicate (length (take r.passes r.counts)) v
  centred_all v = take_same r.passes 16 v (few_passes k c) ∙ ap (λ (n : ℕ). replicate n v) (c.number ∙ sym (ap length c.kept))

  pub set_all : (v : Float) → SoundSet (take r.passes r.counts) times freqs (take r.passes (replicate 16 v))
  set_all v =
      let s = sampled_all in
      let same : length (take r.passes (replicate 16 v)) ≡ length (take r.passes r.counts) = ap length (centred_all v) ∙ length-replicate _ v in
      record { sizes = rw same s.sizes; timed = s.timed }

  pub some_all : 0 < length (take r.passes r.counts)
  some_all = rw c.kept (omega (arith, k.passes))

  pub given_all : (o : Outputs) (scratch : List Float) (y : Recording) (size : ℕ) → room_refusal_of (length times) (length (non_empty counts)) (output_room o scratch) ≡ None
      → y.set.counts.now ≡ take r.passes r.counts → y.set.times.now ≡ times → size ≡ length scratch → Roomy y size
  given_all o scratch y size e f t q =
      let m = roomy_all (length times) (length (non_empty counts)) o scratch e in
      record { two = rw (f, c.kept) k.passes; room = rw (q, t, f, c.kept) m.scratch_room }

pub holds : (x : Arguments) (o : Outputs) (scratch : List Float) (a : InputAccepted x.counts x.times x.freqs x.centers x.rec x.a x.i) (r : NonEmpty) (c : Compacts x.counts r)
    → room_refusal_of (length x.times) (pass_count x) (output_room o scratch) ≡ None
    → (t : Trials) (old sums : List Float) → RunsTo (book_of x) old sums t → length sums ≡ 150 → OutputsRoom t.count r.passes x.times sums o
holds x o scratch a r c e t old sums run size =
    let m = roomy_all (length x.times) (pass_count x) o scratch e in
    record {
      timed = a.timed;
      some = omega (arith, a.samples);
      few = few_passes a c;
      dts_room = omega (arith, c.number, m.dts_room);
      dfs_room = omega (arith, c.number, m.dfs_room);
      df1s_room = omega (arith, c.number, m.df1s_room);
      df2s_room = omega (arith, c.number, m.df2s_room);
      sums_room = omega (arith, run.count, most_trials (radius (observations x)) x.i (observations x), size);
      log_room = omega (arith, m.log_room, size);
    }

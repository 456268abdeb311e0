-- The steps of the fit, joined to its definitions. Assumes nothing.
use mathlib.Core.Path.{◌≡◌, refl, sym, ap, ◌∙◌}
use mathlib.Core.Bool.{Bool, true, false, cond}
use mathlib.Core.List.{List, [], ◌∷◌}
use Prim.Native.Nat.{ℕ, zero, suc, ◌+◌, ◌*◌, ◌≤◌, ◌<◌}
use native.Mathlib.Nat.{le_trans, mul-le-mul, mul-le-mul_left}
use native.Mathlib.Omega.{arith}
use lib.Dec.{leb}
use lib.IntN.{ℤ, pos}
use lib.ListN.{length, get_or, take, replicate}
use lib.Seq.{length-take-le, get_or-take}
use lib.Ieee.{Float}
use Rattle.std.proofs.Common.{Some, None}
use Rattle.refusal.specs.Refusals.{first_of}
use Rattle.refusal.specs.declared.Refusal.{Refusal}
use Rattle.refusal.specs.declared.Refusal.TheVariants.{FarMoment}
use Rattle.moment.specs.Sample.{Timed, instant_at}
use Rattle.moment.proofs.Samples.{within_sound}
use Rattle.frame.specs.declared.Vec3.{Vec3}
use Rattle.orbit.specs.declared.Elements.{Elements}
use Rattle.pass_set.specs.PassSet.{start_of, total, SoundSet}
use Rattle.pass_set.proofs.Laws.{start_zero, start_next, start_fits}
use Rattle.search.specs.Sum.{fixed_sum}
use Rattle.search.specs.Search.{search_of}
use Rattle.search.specs.declared.Found.{Found}
use Rattle.residuals.specs.Samples.{passes_of, counts_at, station_of, DatedTimes, Rotations, Samples}
use Rattle.residuals.specs.Residuals.{rows_of, place_of, elements_of, penalised_sum}
use Rattle.residuals.proofs.Samples.{counts_length, counts_dated}
use Rattle.refine.specs.Advance.{advance_of}
use Rattle.book.specs.Book.{Search, book, far_ending, far_of}
use Rattle.book.specs.declared.Ending.{Ending}
use Rattle.trials.specs.Trials as trials
use Rattle.trials.specs.Trials.{RunsTo, Runs}
use Rattle.trials.specs.declared.Trials.{Trials}
use Rattle.trials.specs.declared.State.{State}
use Rattle.start.specs.Start.{SampledPasses, starting_set}
use Rattle.start.specs.declared.Recording.{Recording}
use Rattle.start.proofs.Given.{first_passes}
use Rattle.arguments.specs.Refusals.{scratch_size}
use Rattle.fit.specs.Fit.{Observations, observed, first_two, best_start, start_elements, refined, refined_two, first_book, trial_book}
use Rattle.fit.specs.Answer.{search_refusals, work_refusals}
use Rattle.fit.specs.Work.{Refines, RoomForTwo, Roomy, Ends}

-- ---- the start

pub elements_found : (a i : Float) (x : Observations) (centers : List Float) (f : Found) → length x.counts ≡ 2 → centers ≡ replicate (length x.counts) x.station.center_freq
    → f ≡ search_of (fixed_sum x.counts x.times x.freqs centers (record { station = x.station; a = a; i = i })) 0 144
    → ◌≡◌ {A = Elements} (record { a = a; i = i; raan0 = f.raan0; u0 = f.u0 }) (start_elements a i x)
unfolding start_elements best_start
elements_found a i x centers f two e h =
    let centred : centers ≡ x.station.center_freq ∷ x.station.center_freq ∷ [] = e ∙ ap (λ (n : ℕ). replicate n x.station.center_freq) two in
    rw (h, centred)

-- ---- a refinement

module _ (times : List ℤ) (moments : List ℕ) (is : moments ≡ counts_at times) where
  pub moments_length : length moments ≡ length times
  moments_length = ap length is ∙ counts_length times

  pub moments_dated : Timed times → DatedTimes moments
  moments_dated h = rw is (counts_dated times h)

-- a recording's samples, as the residuals take them
pub sampled : (x : Recording) (moments : List ℕ) (turns : List Float) → moments ≡ counts_at x.set.times.now → Rotations moments turns → Samples x.station (passes_of x.set.counts.now moments x.set.freqs.now) turns
sampled x moments turns is t =
    let same = moments_length x.set.times.now moments is in
    let s = x.sampled in
    record {
      epoch = within_sound 0 x.station.epoch.secs x.station.epoch.nanos (omega arith) x.dated;
      few = s.sizes.few;
      small = rw same s.sizes.small;
      whole = s.sizes.whole ∙ sym same;
      pairs = s.sizes.pairs ∙ sym same;
      turned = t;
    }

pub runs_refined : (second enough : Bool) (most : ℕ) (e : Elements) (x : Observations) (moments : List ℕ) (start old log : List Float) (cells : ℕ) (scratch scratch' : List Float) (t : Trials)
    → moments ≡ counts_at x.times → start ≡ starting_set x.counts x.times x.freqs x.station e second
    → Runs (book (penalised_sum second x.station (passes_of x.counts moments x.freqs))
    (advance_of second x.station (passes_of x.counts moments x.freqs)) enough start most) old log cells scratch scratch' t
    → RunsTo (refined second enough most e x) old log t
unfolding refined
runs_refined second enough most e x moments start old log cells scratch scratch' t m s r = rw (s, m) at r.runs

-- ---- two passes

pub two_refines : {x : Recording} {scratch : ℕ} (room : ℕ) → room ≡ scratch → RoomForTwo x scratch → Refines false 100 x 100 room
unfolding rows_of place_of
two_refines room e s = record { log_room = omega arith; few = omega arith; table = rw (s.two, e) s.table }

pub two_ends : (a i : Float) (x : Observations) (e : Elements) (rows : ℕ) (old log : List Float) (t : Trials) → e ≡ start_elements a i x → rows ≡ rows_of false (length x.times) (length x.counts)
    → RunsTo (refined false (leb 8 rows) 100 e x) old log t → Ends (refined_two a i x) t.state
unfolding refined_two
two_ends a i x e rows old log t h k r =
    let q = rw (h, k) at r in
    record { search = q.search; ended = q.ended }

-- ---- the first two of some passes

pub two_start : (counts : List ℕ) → 2 ≤ length counts → get_or counts 0 0 + get_or counts 1 0 ≡ start_of counts 2
two_start counts h =
    omega (arith, start_zero counts, start_next counts 0 (omega arith), start_next counts 1 (omega arith))

module _ (x : Recording) {scratch : ℕ} (s : Roomy x scratch) where
  abbrev counts : List ℕ
  counts = x.set.counts.now

  abbrev times : List ℤ
  times = x.set.times.now

  pub two_fits : get_or counts 0 0 + get_or counts 1 0 ≤ length times
  two_fits = omega (arith, two_start counts s.two, start_next counts 1 (omega (arith, s.two)), start_fits counts 1 (omega (arith, s.two)), x.sampled.sizes.whole)

  -- the first two are a recording
  pub two_sampled : (n : ℕ) → n ≡ get_or counts 0 0 + get_or counts 1 0 → SampledPasses (take 2 counts) (take n times) (take n x.set.freqs.now)
  two_sampled n e =
      let at : n ≡ start_of counts 2 = e ∙ two_start counts s.two in
      rw at (first_passes 2 x.sampled)

  pub two_set : (n : ℕ) → n ≡ get_or counts 0 0 + get_or counts 1 0 → SoundSet (take 2 counts) (take n times) (take n x.set.freqs.now) (take 2 x.set.centers.now)
  two_set n e =
      let p = two_sampled n e in
      let same : length (take 2 x.set.centers.now) ≡ length (take 2 counts) = length-take-le 2 x.set.centers.now (omega (arith, s.two, x.set.sound.sizes.centred)) ∙ sym (length-take-le 2 counts s.two) in
      record { sizes = rw same p.sizes; timed = p.timed }

  pub two_centred : take 2 x.set.centers.now ≡ replicate (length (take 2 counts)) x.station.center_freq
  two_centred = go (length counts) s.two x.centred ∙ ap (λ (n : ℕ). replicate n x.station.center_freq) (sym (length-take-le 2 counts s.two))
    where
      go : (n : ℕ) → 2 ≤ n → x.set.centers.now ≡ replicate n x.station.center_freq → take 2 x.set.centers.now ≡ replicate 2 x.station.center_freq
      go zero h e = absurd (omega arith)
      go (suc zero) h e = absurd (omega arith)
      go (suc (suc n)) h e = ap (take 2) e

  -- with room enough
  pub room_for_two : (y : Recording) → y.set.counts.now ≡ take 2 counts → y.set.times.now ≡ take (get_or counts 0 0 + get_or counts 1 0) times → RoomForTwo y scratch
  unfolding scratch_size
  room_for_two y c t =
      let n : ℕ = get_or counts 0 0 + get_or counts 1 0 in
      let size : length (take n times) ≡ n = length-take-le n times (omega (arith, two_fits)) in
      record {
        two = rw c (length-take-le 2 counts s.two);
        rotations = omega (arith, s.room);
        table = rw (t, size) (le_trans (mul-le-mul (wide {t = length times} {p = length counts} n (omega (arith, two_fits)) s.two) (deep {p = length counts} s.two)) (omega (arith, s.room)));
      }
    where
      wide : {t p : ℕ} (n : ℕ) → n ≤ t → 2 ≤ p → n + 2 ≤ t + 3 * p
      wide n h k = omega arith

      deep : {p : ℕ} → 2 ≤ p → 8 ≤ 5 + 4 * p
      deep k = omega arith

-- their first sample is the fit's, so that the fit's station is theirs
pub first_station : (counts : List ℕ) (times : List ℤ) (freqs : List Float) (center : Float) (rec : Vec3) (n : ℕ) → n ≡ total (take 2 counts) → 0 < n
    → first_two (observed counts times freqs (station_of times center rec)) ≡ observed (take 2 counts) (take n times) (take n freqs) (station_of (take n times) center rec)
unfolding first_two
first_station counts times freqs center rec n e h =
    rw (← e) (ap (λ (t : ℤ). observed (take 2 counts) (take n times) (take n freqs) (record { epoch = instant_at t; center_freq = center; rec_ecef = rec })) (sym (get_or-take n times 0 (pos 0) h)))

pub first_ends : (a i : Float) (x : Observations) (n : ℕ) (s : State) → n ≡ start_of x.counts 2
    → Ends (refined_two a i (observed (take 2 x.counts) (take n x.times) (take n x.freqs) x.station)) s → Ends (first_book a i x) s
unfolding first_book first_two start_of
first_ends a i x n s k r = rw k at r

-- ---- both

table_all : (t p room : ℕ) → (t + 3 * p) * (5 + 4 * p) + 20000 ≤ room → (t + 3 * p) * (4 + 4 * p) ≤ room
table_all t p room h =
    let m = mul-le-mul_left {m = 4 + 4 * p} {n = 5 + 4 * p} (t + 3 * p) (omega arith) in
    omega (arith, m, h)

pub all_refines : {x : Recording} {scratch : ℕ} (log room : ℕ) → 150 ≤ log → room ≡ scratch → Roomy x scratch → Refines true 150 x log room
unfolding rows_of place_of scratch_size
all_refines {x} {scratch} log room h e s =
    record { log_room = h; few = omega arith; table = rw e (table_all (length x.set.times.now) (length x.set.counts.now) scratch s.room) }

second_runs : (x : Observations) (a i : Float) (old log : List Float) (k : Elements) (t : Trials) → k ≡ elements_of (first_book a i x).search.best_set → RunsTo (refined true true 150 k x) old log t
    → RunsTo (trial_book a i x) old log t
unfolding trial_book
second_runs x a i old log k t e r = rw e at r

-- ---- the refusal that an ending gives

module _ (e : Ending) where
  pub far_ended : (r : Refusal) → Some r ≡ far_of e → (r ≡ FarMoment) × (far_ending e ≡ true)
  far_ended r = go (far_ending e)
    where
      go : (b : Bool) → Some r ≡ cond b (Some FarMoment) None → (r ≡ FarMoment) × (b ≡ true)
      go true h = (cc, refl)
      go false h = absurd cc

  pub not_far : None ≡ far_of e → far_ending e ≡ false
  not_far = go (far_ending e)
    where
      go : (b : Bool) → None ≡ cond b (Some FarMoment) None → b ≡ false
      go true h = absurd cc
      go false h = refl

module _ (x : Observations) (a i : Float) (s : State) (e : Ends (first_book a i x) s) where
  -- 23 from the first refinement
  pub solves_far : (r : Refusal) → Some r ≡ far_of s.ended → first_of (work_refusals (first_book a i x) (trial_book a i x) (length x.counts)) ≡ Some r
  solves_far r h = let f = far_ended s.ended r h in rw (← e.ended, f.1, f.0)

  module _ (q : None ≡ far_of s.ended) (old log : List Float) (t : Trials) (k : Elements) (h : k ≡ elements_of s.best_params) (run : RunsTo (refined true true 150 k x) old log t) where
    pub second : RunsTo (trial_book a i x) old log t
    second = second_runs x a i old log k t (h ∙ ap (λ (y : Search). elements_of y.best_set) e.search) run

    -- those of the second
    pub solves : first_of (work_refusals (first_book a i x) (trial_book a i x) (length x.counts)) ≡ first_of (search_refusals t.state.ended (trials.state_search t.state) (length x.counts))
    solves = rw (← e.ended, not_far s.ended q, ← second.ended, ← second.search)

-- What a call that is not refused knows, and what its parts give it. Assumes nothing.
use mathlib.Core.Path.{◌≡◌, refl, sym, ap, ◌∙◌}
use mathlib.Core.Bool.{Bool, true, false, not, true≢false}
use mathlib.Core.List.{List, [], ◌∷◌}
use mathlib.Core.Option.{Option, none, some}
use Prim.Native.Nat.{ℕ, ◌*◌, ◌≤◌}
use native.Mathlib.Omega.{arith}
use native.Mathlib.Nat.{mul-le-mul}
use lib.Dec.{leb, ltb}
use lib.IntN.{ℤ, pos}
use lib.ListN.{length, take}
use lib.Ieee.{Float}
use borrow.Author.Tests.{ltb-false, not-false}
use Rattle.std.proofs.Common.{None, Result}
use Rattle.refusal.specs.Refusals.{◌when◌}
use Rattle.refusal.specs.declared.Refusal.{Refusal}
use Rattle.refusal.specs.declared.Refusal.TheVariants.{MomentRange, Sizes as SizesDisagree, ShortMemory}
use Rattle.refusal.proofs.Lists.{clear}
use Rattle.moment.specs.Sample.{times_in_range, Timed, instant_at}
use Rattle.moment.proofs.Samples.{timed}
use Rattle.pass_set.specs.PassSet.{Sizes, sizes_agree}
use Rattle.pass_set.proofs.Laws as laws
use Rattle.orbit.specs.declared.doppler.Station.{Station}
use Rattle.residuals.specs.Samples.{Passes, counts_at, first_epoch, DatedTimes}
use Rattle.residuals.specs.Residuals.{place_of, rows_of, penalised_sum, each, sum_of}
use Rattle.residuals.specs.Answers as residuals
use Rattle.residuals.specs.Residuals as residuals-of
use Rattle.residuals.proofs.Samples.{counts_length, counts_dated}
use Rattle.normal.specs.Step.{Outcome}
use Rattle.refine.specs.Advance.{advance_of, cells_of}
use Rattle.book.specs.Book.{Search, After, Book, compared, arrival, onward, noted, trial, following, turn, while_running}
use Rattle.book.specs.declared.Ending.{Ending}
use Rattle.book.specs.declared.Ending.TheVariants.{Running, Refused, Short, Damped, Converged}
use Rattle.refine.proofs.Advances.{places_few, rows_fit}
use Rattle.trials.specs.Trials.{Tries, state_search, state_after, rows_in, below}
use Rattle.trials.specs.declared.State.{State}
use Rattle.trials.specs.declared.Tried.{Tried}
use Rattle.trials.proofs.Laws.{kept_set}
use Rattle.probes.specs.Call.{probe_refusal, Observable, book_with, book_after, enough_of, trial_of}

-- ---- no refusal before the work

pub record Taken (counts : List ℕ) (times : List ℤ) (freqs : List Float) (centres room least : ℕ) : Type 0 where
  pub timed : Timed times
  pub sizes : Sizes counts (length times) (length freqs) centres
  pub enough : least ≤ room

pub taken : (counts : List ℕ) (times : List ℤ) (freqs : List Float) (centres room least : ℕ) → probe_refusal counts times freqs centres room least ≡ None
    → Taken counts times freqs centres room least
unfolding probe_refusal
taken counts times freqs centres room least e =
    let s = clear (
    (MomentRange when not (times_in_range times))
    ∷ (SizesDisagree when not (sizes_agree counts (length times) (length freqs) centres))
    ∷ (ShortMemory when ltb room least)
    ∷ []
    ) e in
    record {
      timed = timed (not-false (times_in_range times) s.0);
      sizes = laws.sizes (not-false (sizes_agree counts (length times) (length freqs) centres) s.1.0);
      enough = ltb-false room least s.1.1.0;
    }

-- ---- the first of a list that may be empty

pub no_epoch : (times : List ℤ) → length times ≡ 0 → instant_at (pos 0) ≡ first_epoch times
no_epoch [] h = refl
no_epoch (t ∷ ts) h = absurd (omega (arith, h))

-- ---- samples that are prepared

pub observable : {counts : List ℕ} {times : List ℤ} {freqs : List Float} {room least : ℕ} (moments turns : ℕ) → 4096 ≤ moments → 8192 ≤ turns
    → Taken counts times freqs (length counts) room least → Observable counts times (length freqs) moments turns
observable moments turns m n t = record { timed = t.timed; sizes = t.sizes; places = m; pairs = n }

pub dated : (times : List ℤ) (moments : List ℕ) → Timed times → take (length times) moments ≡ counts_at times → DatedTimes (take (length times) moments)
dated times moments t e = rw e (counts_dated times t)

pub counted_length : (times : List ℤ) (moments : List ℕ) → take (length times) moments ≡ counts_at times → length (take (length times) moments) ≡ length times
counted_length times moments e = ap length e ∙ counts_length times

-- room for the table of derivatives
pub cells_few : (second : Bool) (d : Passes) → length d.counts ≤ 16 → length d.times ≤ 4096 → cells_of second d ≤ 281792
cells_few second d few small =
    let p = places_few second (length d.counts) few in
    let r = rows_fit second (length d.times) (length d.counts) in
    let most : rows_of second (length d.times) (length d.counts) ≤ 4144 = omega (arith, r, few, small) in
    let cells : rows_of second (length d.times) (length d.counts) * place_of second (length d.counts) ≤ 4144 * 68 = mul-le-mul most p in
    omega (arith, cells)

-- ---- a trial

-- the residuals of a set that was kept are those that its trial left
held_from : (w : Option (List Float)) (s : Search) (xs : List Float) (q : Result Float Refusal) (k : Bool) (t : State) → residuals.Summed xs w q → k ≡ below (each sum_of w) s.best
    → state_after t ≡ compared (each sum_of w) s → k ≡ true → (some xs ≡ w) × (t.params ≡ s.next)
held_from none s xs q k t u b a h = let z : true ≡ false = sym h ∙ b in absurd (true≢false z)
held_from (some r) s xs q k t u b a h = (u.written, kept_set s (sum_of r) t a (sym b ∙ h))

pub held_of : (second : Bool) (g : Station) (d : Passes) (s : Search) (r : List Float) (t : Tried) → Tries second g d s r t → t.kept ≡ true
    → some (take (rows_in second d) r) ≡ residuals-of.residuals second g d t.state.params
unfolding penalised_sum
held_of second g d s r t w k =
    let h = held_from (residuals-of.residuals second g d s.next) s (take (rows_in second d) r) t.sum t.kept t.state w.summed w.kept w.after k in
    rw h.1 h.0

module _ (sum : List Float → Option Float) (step : Float → List Float → Outcome) (enough : Bool) where
  -- what follows the first half of a turn
  abbrev then_of : After → After
  then_of a = while_running a.ended (arrival a.search (onward sum step enough a.search)) a

  second_half : (b : Book) → book_after (following sum step enough b) ≡ then_of (book_after b)
  unfolding following
  second_half b = go b.ended refl
    where
      go : (e : Ending) → b.ended ≡ e → book_after (following sum step enough b) ≡ then_of (book_after b)
      go Running h = rw h
      go (Refused k) h = rw h
      go Short h = rw h
      go Damped h = rw h
      go Converged h = rw h

  noted_after : (o : Option Float) (s : Search) → book_after (noted o (book_with s)) ≡ compared o s
  noted_after none s = refl
  noted_after (some v) s = refl

  first_half : (s : Search) → book_after (trial sum step enough (book_with s)) ≡ compared (sum s.next) s
  unfolding trial
  first_half s = noted_after (sum s.next) s

  turned_to : (s : Search) → book_after (turn sum step enough (book_with s)) ≡ then_of (compared (sum s.next) s)
  unfolding turn
  turned_to s = second_half (trial sum step enough (book_with s)) ∙ ap then_of (first_half s)

  stays : (a : After) (e : Ending) → a.ended ≡ e → (e ≡ Running → ⊥) → then_of a ≡ a
  stays a Running h n = absurd (n refl)
  stays a (Refused k) h n = rw h
  stays a Short h n = rw h
  stays a Damped h n = rw h
  stays a Converged h n = rw h

  goes : (a : After) → a.ended ≡ Running → then_of a ≡ arrival a.search (onward sum step enough a.search)
  goes a h = rw h

  ended_so : (s : Search) (t : State) → state_after t ≡ compared (sum s.next) s → (t.ended ≡ Running → ⊥)
      → state_after t ≡ book_after (turn sum step enough (book_with s))
  ended_so s t a n = sym (stays (state_after t) t.ended refl n) ∙ ap then_of a ∙ sym (turned_to s)

  gone_on : (s : Search) (t u : State) → state_after t ≡ compared (sum s.next) s → t.ended ≡ Running
      → state_after u ≡ arrival (state_search t) (onward sum step enough (state_search t)) → state_after u ≡ book_after (turn sum step enough (book_with s))
  gone_on s t u a n f = f ∙ sym (goes (state_after t) n) ∙ ap then_of a ∙ sym (turned_to s)

module _ (second : Bool) (g : Station) (d : Passes) (s : Search) (t : State) (a : state_after t ≡ compared (penalised_sum second g d s.next) s) where
  pub trial_ended : (t.ended ≡ Running → ⊥) → state_after t ≡ trial_of second g d s
  unfolding trial_of
  trial_ended n = ended_so (penalised_sum second g d) (advance_of second g d) (enough_of second d) s t a n

  pub trial_followed : (u : State) (p q : ℕ) → p ≡ place_of second (length d.counts) → q ≡ rows_of second (length d.times) (length d.counts) → t.ended ≡ Running
      → state_after u ≡ arrival (state_search t) (onward (penalised_sum second g d) (advance_of second g d) (leb p q) (state_search t)) → state_after u ≡ trial_of second g d s
  unfolding trial_of
  trial_followed u p q e f n h = gone_on (penalised_sum second g d) (advance_of second g d) (enough_of second d) s t u a n (rw (e, f) at h)

-- The trial loop's invariant, and its ways out. Assumes nothing.
use mathlib.Core.Path.{◌≡◌, refl, sym, ap, ◌∙◌}
use mathlib.Core.Bool.{Bool, true, false}
use mathlib.Core.List.{List, [], ◌∷◌, ◌++◌}
use mathlib.Core.Option.{Option, none, some}
use Prim.Native.Nat.{ℕ, ◌+◌, ◌<◌, ◌≤◌}
use native.Mathlib.Omega.{arith}
use lib.ListN.{length, set, length-set}
use lib.Ieee.{Float, lt}
use Rattle.float.specs.Ops.{bits}
use Rattle.refusal.specs.declared.Refusal.{Refusal}
use Rattle.normal.specs.Step.{Outcome, next}
use Rattle.normal.specs.Answers.{outcome}
use Rattle.normal.specs.declared.Step.{Step}
use Rattle.normal.specs.declared.Step.TheVariants.{Next, Short, Refused}
use Rattle.book.specs.Book.{small_step_bits, Search, Book, After, compared, arrival, onward, open_book, gone_to, noted, trial, following, book}
use Rattle.book.specs.declared.Ending.{Ending}
use Rattle.book.specs.declared.Ending.TheVariants as Ends
use Rattle.book.specs.declared.Ending.TheVariants.{Running}
use Rattle.book.proofs.Books.{Ended, by_refusal, by_shortness, by_damping, by_convergence, trial_is, following_is, following_rests, book_next, stays_to, counted}
use Rattle.trials.specs.Trials.{state_search, state_after, Arrives, RunsTo}
use Rattle.trials.specs.declared.State.{State}
use Rattle.trials.specs.declared.Followed.{Followed}
use Rattle.trials.proofs.Laws.{logged, logged_next, longer}

abbrev book_after : Book → After
book_after b = record { search = b.search; ended = b.ended }

-- ---- a step that leads nowhere ends the refinement

pub data Stops : Step → Type 0 where
  at_short : Stops Short
  at_refusal : {r : Refusal} → Stops (Refused r)

-- whichever arm of a `let .. else` is left
pub stops_of : (p : Step) → ((size : Float) → p ≡ Next size → ⊥) → Stops p
stops_of (Next size) h = absurd (h size refl)
stops_of Short h = at_short
stops_of (Refused k) h = at_refusal

pub ended_of : (g : Ending) → (g ≡ Running → ⊥) → Ended g
ended_of Running h = absurd (h refl)
ended_of (Ends.Refused k) h = by_refusal
ended_of Ends.Short h = by_shortness
ended_of Ends.Damped h = by_damping
ended_of Ends.Converged h = by_convergence

stopped : (p : Step) (x : List Float) (s : Search) → Stops p → Ended (arrival s (outcome p x)).ended
stopped (Next _) x s h = elim h [ ]
stopped Short x s at_short = by_shortness
stopped (Refused k) x s at_refusal = by_refusal

module _ (sum : List Float → Option Float) (step : Float → List Float → Outcome) (enough : Bool) (most : ℕ) (x old : List Float) where
  abbrev at : ℕ → Book
  at n = book sum step enough x n

  -- the book between the halves of a turn
  abbrev between : ℕ → Book
  between n = trial sum step enough (at n)

  -- state, log and count are those of the book after n trials, which still runs
  pub record Inv (log : List Float) (s : State) (n : ℕ) : Type 0 where
    pub within : n ≤ most
    pub same : length log ≡ length old
    pub going : (at n).ended ≡ Running
    pub size : length (at n).log ≡ n
    pub after : state_after s ≡ book_after (at n)
    pub written : log ≡ logged (at n) old

  pub opens : (s : State) → state_after s ≡ record { search = (open_book x).search; ended = (open_book x).ended } → Inv old s 0
  unfolding book open_book
  opens s e = record { within = omega arith; same = refl; going = refl; size = refl; after = e; written = refl }

  -- ---- the answer

  answer : (b : Book) (n : ℕ) (log : List Float) (s : State) → at most ≡ b → b.count ≡ n → state_after s ≡ book_after b → log ≡ logged b old
      → RunsTo (at most) old log (record { count = n; state = s })
  answer b n log s same size e w =
      rw same (record {
        search = ap (λ (a : After). a.search) e;
        ended = ap (λ (a : After). a.ended) e;
        count = sym size;
        logged = w;
      })

  -- a book that has ended after n + 1 turns is the last one
  ends_at : (b : Book) (n : ℕ) → n < most → at (n + 1) ≡ b → Ended b.ended → at most ≡ b
  ends_at b n h e d = stays_to sum step enough x (n + 1) most (omega arith) (rw e d) ∙ e

  module _ (log : List Float) (s : State) (n : ℕ) (i : Inv log s n) where
    here : state_search s ≡ (at n).search
    here = ap (λ (a : After). a.search) i.after

    set_here : sum s.params ≡ sum (at n).search.next
    set_here = ap (λ (a : After). sum a.search.next) i.after

    size_here : (at n).count ≡ n
    size_here = counted sum step enough x n ∙ i.size

    -- all trials were made
    pub stops_full : most ≤ n → RunsTo (at most) old log (record { count = n; state = s })
    stops_full h = let e : most ≡ n = omega (arith, i.within) in answer (at n) n log s (ap at e) size_here i.after i.written

    module _ (h : n < most) (room : most ≤ length old) (t : State) (after : state_after t ≡ compared (sum s.params) (state_search s)) where
      -- the next set was refused
      pub stops_far : sum s.params ≡ none → RunsTo (at most) old log (record { count = n; state = t })
      stops_far none_is =
          let b : between n ≡ noted none (at n) = trial_is sum step enough (at n) none i.going (sym set_here ∙ none_is) in
          let e : at (n + 1) ≡ noted none (at n) = book_next sum step enough x n ∙ ap (following sum step enough) b ∙ following_rests sum step enough (noted none (at n)) by_refusal in
          answer (noted none (at n)) n log t (ends_at (noted none (at n)) n h e by_refusal) size_here (after ∙ rw (none_is, here)) i.written

      module _ (v : Float) (is : sum s.params ≡ some v) where
        noted_is : between n ≡ noted (some v) (at n)
        noted_is = trial_is sum step enough (at n) (some v) i.going (sym set_here ∙ is)

        next_is : at (n + 1) ≡ following sum step enough (noted (some v) (at n))
        next_is = book_next sum step enough x n ∙ ap (following sum step enough) noted_is

        halfway : state_after t ≡ book_after (noted (some v) (at n))
        halfway = after ∙ rw (is, here)

        -- a book whose log is that of the noted one
        noted_log : (c : Book) → c.log ≡ (at n).log ++ (v ∷ []) → set log n v ≡ logged c old
        noted_log c e = logged_next (at n) c v n old log i.size (omega arith) e i.written

        noted_size : (noted (some v) (at n)).count ≡ n + 1
        noted_size = ap (◌+ 1) size_here

        -- the trial ended it, by the damping
        pub stops_tried : Ended t.ended → RunsTo (at most) old (set log n v) (record { count = n + 1; state = t })
        stops_tried d =
            let d' : Ended (noted (some v) (at n)).ended = rw (ap (λ (a : After). a.ended) halfway) at d in
            answer (noted (some v) (at n)) (n + 1) (set log n v) t
            (ends_at (noted (some v) (at n)) n h (next_is ∙ following_rests sum step enough (noted (some v) (at n)) d') d')
            noted_size halfway (noted_log (noted (some v) (at n)) refl)

        -- what follows the trial
        module _ (f : Followed) (run : t.ended ≡ Running) (go : Arrives (state_search t) (onward sum step enough (state_search t)) f) where
          abbrev o : Outcome
          o = onward sum step enough (noted (some v) (at n)).search

          abbrev gone : Book
          gone = gone_to (arrival (noted (some v) (at n)).search o) (noted (some v) (at n))

          gone_is : at (n + 1) ≡ gone
          gone_is = next_is ∙ following_is sum step enough (noted (some v) (at n)) o (sym (ap (λ (a : After). a.ended) halfway) ∙ run) refl

          arrived : state_after f.state ≡ book_after gone
          arrived = go.after ∙ ap (λ (a : After). arrival a.search (onward sum step enough a.search)) halfway

          pub stops_followed : Ended f.state.ended → RunsTo (at most) old (set log n v) (record { count = n + 1; state = f.state })
          stops_followed d =
              answer gone (n + 1) (set log n v) f.state
              (ends_at gone n h gone_is (rw (ap (λ (a : After). a.ended) arrived) at d))
              noted_size arrived (noted_log gone refl)

          pub goes_on : f.state.ended ≡ Running → Inv (set log n v) f.state (n + 1)
          goes_on r = record {
            within = omega arith;
            same = length-set log n v ∙ i.same;
            going = ap (λ (b : Book). b.ended) gone_is ∙ sym (ap (λ (a : After). a.ended) arrived) ∙ r;
            size = longer (at n) (at (n + 1)) v n i.size (ap (λ (b : Book). b.log) gone_is);
            after = arrived ∙ ap book_after (sym gone_is);
            written = noted_log (at (n + 1)) (ap (λ (b : Book). b.log) gone_is);
          }

-- ---- how the step's answer ends it

module _ (s : Search) (o : Outcome) (f : Followed) (go : Arrives s o f) where
  pub stops_other : Stops f.step → Ended f.state.ended
  stops_other d =
      rw (ap (λ (a : After). a.ended) go.after, ← go.step) (stopped f.step f.state.params s d)

  next_ended : (size : Float) → f.step ≡ Next size → f.state.ended ≡ (arrival s (next f.state.params size)).ended
  next_ended size e = ap (λ (a : After). a.ended) go.after ∙ ap (λ (p : Outcome). (arrival s p).ended) (sym go.step ∙ ap (λ (p : Step). outcome p f.state.params) e)

  pub stops_small : (size : Float) → f.step ≡ Next size → lt size (bits 0x3e45798ee2308c3a) ≡ true → Ended f.state.ended
  stops_small size e h = let h' = rw small_step_bits at h in rw (next_ended size e, h') by_convergence

  pub goes_large : (size : Float) → f.step ≡ Next size → lt size (bits 0x3e45798ee2308c3a) ≡ false → f.state.ended ≡ Running
  goes_large size e h = let h' = rw small_step_bits at h in next_ended size e ∙ rw h'

-- the loop starts from the state that `open` makes of a set
module _ (start : List Float) (s : State) (e : state_after s ≡ record { search = (open_book start).search; ended = (open_book start).ended }) where
  pub started : s.params ≡ start
  unfolding open_book
  started = ap (λ (a : After). a.search.next) e

  pub opens_from : (sum : List Float → Option Float) (step : Float → List Float → Outcome) (enough : Bool) (most : ℕ) (old : List Float) → Inv sum step enough most s.params old old s 0
  opens_from sum step enough most old =
      opens sum step enough most s.params old s (e ∙ ap (λ (y : List Float). record { search = (open_book y).search; ended = (open_book y).ended }) (sym started))

-- The halves of a turn, as the code takes them. Assumes nothing.
use mathlib.Core.Path.{◌≡◌, refl, sym, ap, ◌∙◌}
use mathlib.Core.Bool.{Bool, true, false, cond}
use mathlib.Core.List.{List, [], ◌∷◌, ◌++◌, append_assoc}
use mathlib.Core.Option.{Option, none, some}
use Prim.Native.Nat.{ℕ, suc, ◌+◌, ◌*◌, ◌<◌, ◌≤◌}
use native.Mathlib.Numerals.{add-one}
use lib.ListN.{length, take, drop, set, length-append}
use lib.Seq.{drop-cons, set_at, length-take-le}
use lib.Ieee.{Float, nan, lt}
use Rattle.std.specs.Bool.{⊤}
use Rattle.std.proofs.Common.{Result, Ok, Err}
use Rattle.refusal.specs.declared.Refusal.{Refusal}
use Rattle.refusal.specs.declared.Refusal.TheVariants.{FarMoment}
use Rattle.float.specs.Ops.{◌⊗◌, ◌⊘◌, bits}
use Rattle.orbit.specs.declared.doppler.Station.{Station}
use Rattle.residuals.specs.Samples.{Passes}
use Rattle.residuals.specs.Residuals.{each, sum_of, residuals, penalised_sum}
use Rattle.residuals.specs.Answers.{sum_answer, Summed, Filled}
use Rattle.residuals.proofs.Laws.{refused_far}
use Rattle.normal.specs.Step.{Outcome, next, short, refused}
use Rattle.normal.specs.Answers.{outcome}
use Rattle.normal.specs.declared.Step.{Step}
use Rattle.normal.specs.declared.Step.TheVariants.{Next, Short, Refused as RefusedStep}
use Rattle.refine.specs.Advance.{advance_of, cells_of}
use Rattle.book.specs.Book.{ten_bits, most_damping_bits, small_step_bits, Search, After, judged, arrival, onward, Book}
use Rattle.book.specs.declared.Ending.TheVariants.{Running, Damped, Converged, Refused as RefusedEnd}
use Rattle.trials.specs.Trials.{state_after, rows_in, Tries, Arrives, Follows}
use Rattle.trials.specs.declared.State.{State}
use Rattle.trials.specs.declared.Tried.{Tried}
use Rattle.trials.specs.declared.Followed.{Followed}

-- ---- a sum, or refusal 23

value_of : (o : Option Float) (v : Float) → Ok v ≡ sum_answer o → o ≡ some v
value_of none v h = cc
value_of (some w) v h = cc

far_of : (o : Option Float) (e : Refusal) → Err e ≡ sum_answer o → o ≡ none
far_of none e h = refl
far_of (some w) e h = cc

far_alone : (o : Option Float) (e : Refusal) → Err e ≡ sum_answer o → e ≡ FarMoment
far_alone none e h = cc
far_alone (some w) e h = cc

known_of : (w : Option (List Float)) (xs : List Float) (v : Float) → each sum_of w ≡ some v → each (λ _. xs) w ≡ w → some xs ≡ w
known_of none xs v e h = cc
known_of (some ys) xs v e h = h

module _ (second : Bool) (g : Station) (d : Passes) (x : List Float) where
  -- the sum is the definition's, and the residuals are there
  pub summed : (xs : List Float) (v : Float) (r : Result Float Refusal) → Summed xs (residuals second g d x) r → Ok v ≡ r → penalised_sum second g d x ≡ some v
  unfolding penalised_sum
  summed xs v r s e = value_of (each sum_of (residuals second g d x)) v (e ∙ s.answer)

  pub summed_known : (xs : List Float) (v : Float) (r : Result Float Refusal) → Summed xs (residuals second g d x) r → Ok v ≡ r → some xs ≡ residuals second g d x
  summed_known xs v r s e = known_of (residuals second g d x) xs v (value_of (each sum_of (residuals second g d x)) v (e ∙ s.answer)) s.written

  pub summed_far : (xs : List Float) (e : Refusal) (r : Result Float Refusal) → Summed xs (residuals second g d x) r → Err e ≡ r → penalised_sum second g d x ≡ none
  unfolding penalised_sum
  summed_far xs e r s q = far_of (each sum_of (residuals second g d x)) e (q ∙ s.answer)

  summed_alone : (xs : List Float) (e : Refusal) (r : Result Float Refusal) → Summed xs (residuals second g d x) r → Err e ≡ r → e ≡ FarMoment
  summed_alone xs e r s q = far_alone (each sum_of (residuals second g d x)) e (q ∙ s.answer)

  -- ---- what follows a trial

  module _ (enough : Bool) (s : Search) (here : s.next ≡ x) where
    abbrev goal : Outcome
    goal = onward (penalised_sum second g d) (advance_of second g d) enough s

    pub onward_far : (e : Refusal) (xs : List Float) → Filled (Err e) xs (residuals second g d x) → refused e ≡ goal
    unfolding onward penalised_sum
    onward_far e xs f =
        let z : none ≡ residuals second g d x = f.written in
        rw (here, ← z) (ap refused (refused_far f))

    pub onward_short : (xs : List Float) → some xs ≡ residuals second g d x → enough ≡ false → short ≡ goal
    unfolding onward penalised_sum
    onward_short xs h e = rw (here, ← h, e)

    pub onward_step : (xs : List Float) → some xs ≡ residuals second g d x → enough ≡ true → advance_of second g d s.damping x ≡ goal
    unfolding onward penalised_sum
    onward_step xs h e = rw (here, ← h, e)

    -- by one of the three
    pub follows : (r scratch scratch' : List Float) (n : Result ⊤ Refusal) (o : Outcome) (f : Followed) → Filled n (take (rows_in second d) r) (residuals second g d x) → o ≡ goal
        → Arrives s o f → drop (cells_of second d) scratch' ≡ drop (cells_of second d) scratch → Follows second enough g d s r scratch scratch' f
    follows r scratch scratch' n o f w e a b =
        record { arrives = rw e at a; left = rw here (left_by n (take (rows_in second d) r) (residuals second g d x) w); behind = b }
      where
        left_by : (n : Result ⊤ Refusal) (ys : List Float) (w : Option (List Float)) → Filled n ys w → each (λ _. ys) w ≡ w
        left_by n ys none f = refl
        left_by (Ok u) ys (some zs) f = f.written
        left_by (Err e) ys (some zs) f = let z = f.written in cc

-- ---- a trial's answer

module _ (second : Bool) (g : Station) (d : Passes) (s : Search) (r : List Float) (a : Result Float Refusal) (w : Summed (take (rows_in second d) r) (residuals second g d s.next) a) where
  pub tried_value : (v : Float) (k : Bool) (t : State) → Ok v ≡ a → k ≡ lt v s.best → state_after t ≡ judged v s → Tries second g d s r (record { sum = Ok v; kept = k; state = t })
  tried_value v k t e ek j =
      let z = summed second g d s.next _ v a w e in
      record { summed = rw e w; kept = rw z ek; after = rw z j }

  pub tried_far : (e : Refusal) (t : State) → Err e ≡ a → state_after t ≡ record { search = s; ended = RefusedEnd e }
      → Tries second g d s r (record { sum = Err e; kept = false; state = t })
  tried_far e t q j =
      let z = summed_far second g d s.next _ e a w q in
      let m = summed_alone second g d s.next _ e a w q in
      record { summed = rw q w; kept = rw z; after = rw z (rw m at j) }

-- ---- where a step leads

arrives_by : (s : Search) (x : List Float) (p : Step) (t : State) → state_after t ≡ arrival s (outcome p x) → Arrives s (outcome p x) (record { step = p; state = t })
arrives_by s x (Next size) t e = record { step = ap (λ (a : After). next a.search.next size) e; after = e }
arrives_by s x Short t e = record { step = refl; after = e }
arrives_by s x (RefusedStep k) t e = record { step = refl; after = e }

pub arrives : (s : Search) (x : List Float) (p q : Step) (t : State) → q ≡ p → state_after t ≡ arrival s (outcome q x) → Arrives s (outcome p x) (record { step = q; state = t })
arrives s x p q t e w = rw (← e) (arrives_by s x q t w)

-- ---- the residuals' slice

pub rows_length : (rows : ℕ) (r : List Float) → rows ≤ length r → length (take rows r) ≡ rows
rows_length rows r h = length-take-le rows r h

pub table_room : (rows m p room : ℕ) (r : List Float) → rows ≤ length r → rows ≡ m → m * p ≤ room → length (take rows r) * p ≤ room
table_room rows m p room r h e l = rw (rows_length rows r h, e) l

-- one more number behind those written
pub more : (done : List Float) (v : Float) (old out : List Float) (n : ℕ) → length done ≡ n → n < length old → out ≡ done ++ drop n old
    → set out n v ≡ (done ++ (v ∷ [])) ++ drop (n + 1) old
more done v old out n size h e =
    ap (λ (l : List Float). set l n v) (e ∙ ap (done ++◌) (drop-cons old n nan h))
    ∙ set_at done _ (drop (suc n) old) v n size
    ∙ sym (append_assoc done (v ∷ []) (drop (suc n) old))
    ∙ ap (λ (k : ℕ). (done ++ (v ∷ [])) ++ drop k old) (sym (add-one n))

-- ---- the log's slice

abbrev pub logged : Book → List Float → List Float
logged b old = b.log ++ drop (length b.log) old

pub longer : (b c : Book) (v : Float) (n : ℕ) → length b.log ≡ n → c.log ≡ b.log ++ (v ∷ []) → length c.log ≡ n + 1
longer b c v n size e = ap length e ∙ length-append b.log (v ∷ []) ∙ ap (◌+ 1) size

-- one more sum is written at the place after the book's
pub logged_next : (b c : Book) (v : Float) (n : ℕ) (old log : List Float) → length b.log ≡ n → n < length old → c.log ≡ b.log ++ (v ∷ []) → log ≡ logged b old
    → set log n v ≡ logged c old
logged_next b c v n old log size h e is =
    more b.log v old log n size h (is ∙ ap (λ (k : ℕ). b.log ++ drop k old) size)
    ∙ ap (λ (k : ℕ). (b.log ++ (v ∷ [])) ++ drop k old) (sym (longer b c v n size e))
    ∙ ap (λ (l : List Float). l ++ drop (length c.log) old) (sym e)

-- ---- with the code's literals

module _ (s : Search) (v : Float) where
  pub judged_kept : lt v s.best ≡ true
      → record { search = record { next = s.next; best_set = s.next; damping = s.damping ⊘ bits 0x4024000000000000; best = v }; ended = Running } ≡ judged v s
  unfolding judged
  judged_kept h = rw (h, ten_bits)

  pub judged_damped : lt v s.best ≡ false → lt (bits 0x426d1a94a2000000) (s.damping ⊗ bits 0x4024000000000000) ≡ true
      → record { search = record { next = s.best_set; best_set = s.best_set; damping = s.damping ⊗ bits 0x4024000000000000; best = s.best }; ended = Damped } ≡ judged v s
  unfolding judged
  judged_damped h g = let g' = rw (ten_bits, most_damping_bits) at g in rw (h, ten_bits, g')

  pub judged_left : lt v s.best ≡ false → lt (bits 0x426d1a94a2000000) (s.damping ⊗ bits 0x4024000000000000) ≡ false
      → record { search = record { next = s.best_set; best_set = s.best_set; damping = s.damping ⊗ bits 0x4024000000000000; best = s.best }; ended = Running } ≡ judged v s
  unfolding judged
  judged_left h g = let g' = rw (ten_bits, most_damping_bits) at g in rw (h, ten_bits, g')

pub reached : (s : Search) (x : List Float) (size : Float) (t : Bool) → lt size (bits 0x3e45798ee2308c3a) ≡ t
    → record { search = record { next = x; best_set = s.best_set; damping = s.damping; best = s.best }; ended = cond t Converged Running } ≡ arrival s (next x size)
reached s x size t h = let h' = rw small_step_bits at h in rw h'

-- a kept set is the one that was tried, and its residuals are at hand
pub kept_set : (s : Search) (v : Float) (t : State) → state_after t ≡ judged v s → lt v s.best ≡ true → t.params ≡ s.next
kept_set s v t j h = ap (λ (a : After). a.search.next) (j ∙ sym (judged_kept s v h))

pub kept_held : (second : Bool) (g : Station) (d : Passes) (s : Search) (r : List Float) (t : Tried) (v : Float) → Tries second g d s r t → Ok v ≡ t.sum → t.kept ≡ true
    → some (take (rows_in second d) r) ≡ residuals second g d t.state.params
kept_held second g d s r t v w e k =
    let z = summed second g d s.next _ v t.sum w.summed e in
    let b : lt v s.best ≡ true = sym (rw z at w.kept) ∙ k in
    rw (kept_set s v t.state (rw z at w.after) b) (summed_known second g d s.next _ v t.sum w.summed e)

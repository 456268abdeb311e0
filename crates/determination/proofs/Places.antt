-- The book's sets are lists of 68 numbers, the port's storage. Behind the 4 + 4P parameters of P passes nothing is read: books from two
-- starts that agree on these have the same count, log, kept sums, best sum and ending, and sets that agree. So sets of 4 + 4P
-- numbers would give the same book. Assumes nothing.
use mathlib.Core.Path.{◌≡◌, refl, sym, ap, ap₂, ◌∙◌}
use mathlib.Core.Bool.{Bool, true, false, cond, ◌||◌}
use mathlib.Core.List.{List, [], ◌∷◌, ◌++◌}
use mathlib.Core.Option.{Option, none, some}
use Prim.Native.Nat.{ℕ, zero, suc, ◌+◌, ◌-◌, ◌*◌, ◌≤◌, ◌<◌}
use native.Mathlib.Decide.{ℕ_discrete}
use native.Mathlib.Omega.{arith}
use lib.ListN.{length, take, set, length-set}
use lib.Seq.{get_or-set_same, get_or-set_other, get_or-take, length-take-le}
use lib.Ieee.{Float, nan, lt}
use Rattle.refusal.specs.declared.Refusal.{Refusal}
use Rattle.refusal.specs.declared.Refusal.TheVariants.{FarMoment}
use Rattle.float.specs.Ops.{◌⊕◌, ◌⊖◌, at}
use Rattle.loops.specs.Loop.{turns, for}
use Rattle.linear.specs.Elimination.{solution_of}
use Rattle.residuals.specs.Samples.{Passes}
use Rattle.residuals.specs.Residuals.{place_of, rows_of, residuals, penalised_sum}
use Rattle.orbit.specs.declared.doppler.Station.{Station}
use Rattle.normal.specs.Normal.{jtj_of, jtr_of}
use Rattle.normal.specs.Step.{
  Outcome,
  next,
  short,
  refused,
  damped,
  scales,
  scaled,
  divided,
  subtract_at,
  subtracted,
  held_to,
  held,
  relative,
  largest_step,
  unscaled,
  finish,
  solve_step,
  damped_step,
}
use Rattle.normal.proofs.Same.{step_same}
use Rattle.refine.specs.Jacobian.{eps_of, perturbed_of, is_far_set, residual_at, entry_of, any_far}
use Rattle.refine.specs.Advance.{advance_of}
use Rattle.book.specs.Book.{most_damping, Search, After, keep, leave, judged, arrival, unless_far, while_running, onward, Book, open_book, noted, trial, following, turn, book}
use Rattle.book.specs.declared.Ending.{Ending}
use Rattle.book.specs.declared.Ending.TheVariants.{Running, Refused, Short, Damped, Converged}
use Rattle.determination.proofs.Sets.{Agree, residuals_same, sum_same}

-- ---- two sets that agree on the parameters of p passes, and have them

pub record Alike (p : ℕ) (x y : List Float) : Type 0 where
  pub agree : Agree p x y
  pub long : 4 + 4 * p ≤ length x
  pub long_too : 4 + 4 * p ≤ length y

set_alike : (p : ℕ) (x y : List Float) (k : ℕ) (v w : Float) → Alike p x y → k < 4 + 4 * p → v ≡ w → Alike p (set x k v) (set y k w)
set_alike p x y k v w s h e =
    record {
      agree = record { each = λ j l. go j l (ℕ_discrete j k) };
      long = rw length-set s.long;
      long_too = rw length-set s.long_too;
    }
  where
    go : (j : ℕ) → j < 4 + 4 * p → Dec (j ≡ k) → at (set x k v) j ≡ at (set y k w) j
    go j l (yes q) = rw q (get_or-set_same x k v nan (omega (arith, s.long)) ∙ e ∙ sym (get_or-set_same y k w nan (omega (arith, s.long_too))))
    go j l (no q) = get_or-set_other x k j v nan q ∙ s.agree.each j l ∙ sym (get_or-set_other y k j w nan q)

-- two loops side by side
turns_alike : {S T : Type 0} (R : S → T → Type 0) (f : ℕ → S → S) (g : ℕ → T → T) (k i b : ℕ) (s : S) (t : T) → i + k ≡ b
    → ((j : ℕ) (u : S) (v : T) → j < b → R u v → R (f j u) (g j v)) → R s t → R (turns f k i s) (turns g k i t)
unfolding turns
turns_alike R f g zero i b s t e body r = r
turns_alike R f g (suc k) i b s t e body r = turns_alike R f g k (i + 1) b (f i s) (g i t) (omega arith) body (body i s t (omega arith) r)

for_alike : {S T : Type 0} (R : S → T → Type 0) (f : ℕ → S → S) (g : ℕ → T → T) (n : ℕ) (s : S) (t : T)
    → ((j : ℕ) (u : S) (v : T) → j < n → R u v → R (f j u) (g j v)) → R s t → R (for 0 n f s) (for 0 n g t)
unfolding for
for_alike R f g n s t body r = turns_alike R f g (n - 0) 0 n s t (omega arith) body r

-- ---- a step from two such sets

pub data AlikeOutcome (p : ℕ) : Outcome → Outcome → Type 0 where
  both_next : {x y : List Float} {size : Float} → Alike p x y → AlikeOutcome p (next x size) (next y size)
  both_short : AlikeOutcome p short short
  both_refused : {k : Refusal} → AlikeOutcome p (refused k) (refused k)

module _ (p : ℕ) (x y : List Float) (s : Alike p x y) where
  subtracted_alike : (delta : List Float) → Alike p (subtracted (4 + 4 * p) delta x) (subtracted (4 + 4 * p) delta y)
  unfolding subtracted subtract_at
  subtracted_alike delta =
      for_alike (Alike p) (subtract_at delta) (subtract_at delta) (4 + 4 * p) x y
      (λ j u v h r. set_alike p u v j _ _ r h (ap (◌⊖ at delta j) (r.agree.each j h))) s

  held_alike : Alike p (held x) (held y)
  unfolding held
  held_alike =
      let a = set_alike p x y 0 _ _ s (omega arith) (ap (held_to _ _) (s.agree.each 0 (omega arith))) in
      set_alike p _ _ 1 _ _ a (omega arith) (ap (held_to _ _) (a.agree.each 1 (omega arith)))

  size_alike : (delta : List Float) → largest_step (4 + 4 * p) x delta ≡ largest_step (4 + 4 * p) y delta
  unfolding largest_step relative
  size_alike delta =
      for_alike (λ u v. u ≡ v) (relative x delta) (relative y delta) (4 + 4 * p) _ _
      (λ j u v h r. rw (r, s.agree.each j h)) refl

finish_alike : (p : ℕ) (f x y : List Float) (t : Option (List Float)) → Alike p x y → AlikeOutcome p (finish true (4 + 4 * p) f x t) (finish true (4 + 4 * p) f y t)
finish_alike p f x y none s = both_refused
finish_alike p f x y (some d) s =
    let delta = unscaled true (4 + 4 * p) f d in
    let h = subtracted_alike p x y s delta in
    let k = held_alike p _ _ h in
    rw (size_alike p _ _ k delta) (both_next k)

damped_alike : (p m : ℕ) (entry : ℕ → ℕ → Float) (residual : ℕ → Float) (lambda : Float) (x y : List Float) → Alike p x y
    → AlikeOutcome p (damped_step true m (4 + 4 * p) entry residual lambda x) (damped_step true m (4 + 4 * p) entry residual lambda y)
unfolding damped_step solve_step
damped_alike p m entry residual lambda x y s =
    let n = 4 + 4 * p in
    let a = damped n lambda (jtj_of n entry m) in
    let v = jtr_of n entry residual m in
    let f = scales n a in
    finish_alike p f x y (solution_of n (scaled n f a) (divided n f v)) s

module _ (g : Station) (d : Passes) (x y : List Float) (s : Alike (length d.counts) x y) where
  abbrev n : ℕ
  n = 4 + 4 * length d.counts

  abbrev res : List Float → Option (List Float)
  res = residuals true g d

  here : res x ≡ res y
  here = residuals_same g d x y s.agree

  moved : (k : ℕ) → k < n → res (perturbed_of x k (eps_of true k)) ≡ res (perturbed_of y k (eps_of true k))
  unfolding perturbed_of
  moved k h = residuals_same g d _ _ (set_alike (length d.counts) x y k _ _ s h (ap (◌⊕ eps_of true k) (s.agree.each k h))).agree

  far_alike : (k i : ℕ) → i + k ≤ n → any_far (eps_of true) res x k i ≡ any_far (eps_of true) res y k i
  unfolding any_far
  far_alike zero i h = refl
  far_alike (suc k) i h = ap₂ (λ (a b : Bool). a || b) (ap is_far_set (moved i (omega arith))) (far_alike k (i + 1) (omega arith))

  entry_alike : (row k : ℕ) → k < n → entry_of (eps_of true) res x row k ≡ entry_of (eps_of true) res y row k
  unfolding entry_of
  entry_alike row k h = rw (moved k h, here)

  residual_alike : (row : ℕ) → residual_at res x row ≡ residual_at res y row
  unfolding residual_at
  residual_alike row = rw here

  by_far : (t : Bool) (o q : Outcome) → AlikeOutcome (length d.counts) o q → AlikeOutcome (length d.counts) (cond t (refused FarMoment) o) (cond t (refused FarMoment) q)
  by_far true o q h = both_refused
  by_far false o q h = h

  pub advance_alike : (lambda : Float) → AlikeOutcome (length d.counts) (advance_of true g d lambda x) (advance_of true g d lambda y)
  unfolding advance_of place_of
  advance_alike lambda =
      let m = rows_of true (length d.times) (length d.counts) in
      rw (
        far_alike n 0 (omega arith),
        step_same m n (entry_of (eps_of true) res x) (entry_of (eps_of true) res y) (residual_at res x) (residual_at res y) (λ row k h l. entry_alike row k l) (λ row h. residual_alike row) true lambda x,
      )
      (by_far (any_far (eps_of true) res y n 0) _ _ (damped_alike (length d.counts) m (entry_of (eps_of true) res y) (residual_at res y) lambda x y s))

-- ---- the books

-- two searches, and two books, that differ behind the parameters alone
pub record AlikeSearch (p : ℕ) (s r : Search) : Type 0 where
  pub next : Alike p s.next r.next
  pub set : Alike p s.best_set r.best_set
  pub damping : s.damping ≡ r.damping
  pub best : s.best ≡ r.best

pub record AlikeBook (p : ℕ) (b c : Book) : Type 0 where
  pub count : b.count ≡ c.count
  pub log : b.log ≡ c.log
  pub kept : b.kept ≡ c.kept
  pub search : AlikeSearch p b.search c.search
  pub ended : b.ended ≡ c.ended

record AlikeAfter (p : ℕ) (a b : After) : Type 0 where
  search : AlikeSearch p a.search b.search
  ended : a.ended ≡ b.ended

abbrev kept_after : Float → Search → After
kept_after v s = record { search = keep v s; ended = Running }

abbrev left_after : Search → After
left_after s = record { search = leave s; ended = cond (lt most_damping (leave s).damping) Damped Running }

judged_alike : (p : ℕ) (v : Float) (s r : Search) → AlikeSearch p s r → AlikeAfter p (judged v s) (judged v r)
unfolding judged
judged_alike p v s r h = rw (ap (lt v) h.best) (go (lt v r.best))
  where
    go : (t : Bool) → AlikeAfter p (cond t (kept_after v s) (left_after s)) (cond t (kept_after v r) (left_after r))
    go true = record { search = record { next = h.next; set = h.next; damping = rw h.damping; best = refl }; ended = refl }
    go false = record { search = record { next = h.set; set = h.set; damping = rw h.damping; best = h.best }; ended = rw h.damping }

arrival_alike : (p : ℕ) (s r : Search) {o q : Outcome} → AlikeSearch p s r → AlikeOutcome p o q → AlikeAfter p (arrival s o) (arrival r q)
arrival_alike p s r h (both_next a) = record { search = record { next = a; set = h.set; damping = h.damping; best = h.best }; ended = refl }
arrival_alike p s r h both_short = record { search = h; ended = refl }
arrival_alike p s r h both_refused = record { search = h; ended = refl }

by_ending : (p : ℕ) (g : Ending) (t u b c : Book) → AlikeBook p t u → AlikeBook p b c → AlikeBook p (while_running g t b) (while_running g u c)
by_ending p Running t u b c h k = h
by_ending p (Refused n) t u b c h k = k
by_ending p Short t u b c h k = k
by_ending p Damped t u b c h k = k
by_ending p Converged t u b c h k = k

of_ending : (p : ℕ) (g g' : Ending) (t u b c : Book) → g ≡ g' → AlikeBook p t u → AlikeBook p b c → AlikeBook p (while_running g t b) (while_running g' u c)
of_ending p g g' t u b c e h k = rw e (by_ending p g' t u b c h k)

note_alike : (p : ℕ) (w : Option Float) (b c : Book) → AlikeBook p b c → AlikeBook p (noted w b) (noted w c)
note_alike p none b c h = record { count = h.count; log = h.log; kept = h.kept; search = h.search; ended = refl }
note_alike p (some v) b c h =
    let j = judged_alike p v b.search c.search h.search in
    record {
      count = ap (◌+ 1) h.count;
      log = ap (◌++ (v ∷ [])) h.log;
      kept = rw (h.kept, h.search.best);
      search = j.search;
      ended = j.ended;
    }

noted_alike : (p : ℕ) (w w' : Option Float) (b c : Book) → w ≡ w' → AlikeBook p b c → AlikeBook p (noted w b) (noted w' c)
noted_alike p w w' b c e h = rw e (note_alike p w' b c h)

by_rows : (p : ℕ) (w : Option Float) (e : Bool) (o q : Outcome) → AlikeOutcome p o q → AlikeOutcome p (unless_far w (cond e o short)) (unless_far w (cond e q short))
by_rows p none e o q h = both_refused
by_rows p (some v) true o q h = h
by_rows p (some v) false o q h = both_short

module _ (g : Station) (d : Passes) (enough : Bool) where
  abbrev pass_count : ℕ
  pass_count = length d.counts

  abbrev sum : List Float → Option Float
  sum = penalised_sum true g d

  abbrev step : Float → List Float → Outcome
  step = advance_of true g d

  onward_alike : (s r : Search) → AlikeSearch pass_count s r → AlikeOutcome pass_count (onward sum step enough s) (onward sum step enough r)
  unfolding onward
  onward_alike s r h =
      rw (sum_same g d s.next r.next h.next.agree, h.damping)
      (by_rows pass_count (sum r.next) enough _ _ (advance_alike g d s.next r.next h.next r.damping))

  trial_alike : (b c : Book) → AlikeBook pass_count b c → AlikeBook pass_count (trial sum step enough b) (trial sum step enough c)
  unfolding trial
  trial_alike b c h =
      of_ending pass_count b.ended c.ended _ _ b c h.ended
      (noted_alike pass_count (sum b.search.next) (sum c.search.next) b c (sum_same g d b.search.next c.search.next h.search.next.agree) h) h

  following_alike : (b c : Book) → AlikeBook pass_count b c → AlikeBook pass_count (following sum step enough b) (following sum step enough c)
  unfolding following
  following_alike b c h =
      let a = arrival_alike pass_count b.search c.search h.search (onward_alike b.search c.search h.search) in
      of_ending pass_count b.ended c.ended _ _ b c h.ended (record { count = h.count; log = h.log; kept = h.kept; search = a.search; ended = a.ended }) h

  pub book_alike : (x y : List Float) → Alike pass_count x y → (n : ℕ) → AlikeBook pass_count (book sum step enough x n) (book sum step enough y n)
  unfolding book turn open_book
  book_alike x y h zero = record { count = refl; log = refl; kept = refl; search = record { next = h; set = h; damping = refl; best = refl }; ended = refl }
  book_alike x y h (suc n) = following_alike _ _ (trial_alike _ _ (book_alike x y h n))

  -- sets of 4 + 4P numbers give the same book
  pub book_short : (x : List Float) → 4 + 4 * pass_count ≤ length x → (n : ℕ)
      → AlikeBook pass_count (book sum step enough (take (4 + 4 * pass_count) x) n) (book sum step enough x n)
  book_short x h =
      book_alike (take (4 + 4 * pass_count) x) x (record {
        agree = record { each = λ k l. get_or-take (4 + 4 * pass_count) x k nan l };
        long = rw (length-take-le (4 + 4 * pass_count) x h) (omega arith);
        long_too = h;
      })

-- Laws on the trial book: its halves, that a book that has ended stays as it is, and that what both halves keep holds of every book.
-- Assumes nothing.
use mathlib.Core.Path.{◌≡◌, refl, sym, ap, ◌∙◌}
use mathlib.Core.Bool.{Bool}
use mathlib.Core.List.{List, [], ◌∷◌}
use mathlib.Core.Option.{Option, none, some}
use Prim.Native.Nat.{ℕ, zero, suc, ◌+◌, ◌-◌, ◌≤◌}
use native.Mathlib.Nat.{add-zero, add-suc}
use native.Mathlib.Numerals.{add-one}
use native.Mathlib.Omega.{arith}
use lib.ListN.{length, length-append}
use lib.Ieee.{Float}
use Rattle.normal.specs.Step.{Outcome, next, short, refused}
use Rattle.book.specs.Book.{Search, After, arrival, while_running, onward, Book, open_book, gone_to, noted, trial, following, turn, book}
use Rattle.refusal.specs.declared.Refusal.{Refusal}
use Rattle.book.specs.declared.Ending.{Ending}
use Rattle.book.specs.declared.Ending.TheVariants.{Running, Refused, Short, Damped, Converged}

-- ---- a book that has ended stays as it is

pub data Ended : Ending → Type 0 where
  by_refusal : {r : Refusal} → Ended (Refused r)
  by_shortness : Ended Short
  by_damping : Ended Damped
  by_convergence : Ended Converged

pub rest : {A : Type 0} (g : Ending) (t b : A) → Ended g → while_running g t b ≡ b
rest Running t b x = elim x [ ]
rest (Refused k) t b by_refusal = refl
rest Short t b by_shortness = refl
rest Damped t b by_damping = refl
rest Converged t b by_convergence = refl

module _ (sum : List Float → Option Float) (step : Float → List Float → Outcome) (enough : Bool) where
  -- ---- the halves of a turn

  -- the trial of a book that still runs
  pub trial_is : (b : Book) (w : Option Float) → b.ended ≡ Running → sum b.search.next ≡ w → trial sum step enough b ≡ noted w b
  unfolding trial
  trial_is b w going e =
      ap (λ (g : Ending). while_running g (noted (sum b.search.next) b) b) going
      ∙ ap (λ (v : Option Float). noted v b) e

  -- what follows a trial after which it still runs
  pub following_is : (b : Book) (o : Outcome) → b.ended ≡ Running → onward sum step enough b.search ≡ o → following sum step enough b ≡ gone_to (arrival b.search o) b
  unfolding following
  following_is b o going e =
      ap (λ (g : Ending). while_running g (gone_to (arrival b.search (onward sum step enough b.search)) b) b) going
      ∙ ap (λ (p : Outcome). gone_to (arrival b.search p) b) e

  pub following_rests : (b : Book) → Ended b.ended → following sum step enough b ≡ b
  unfolding following
  following_rests b h = rest b.ended _ b h

  pub turn_rests : (b : Book) → Ended b.ended → turn sum step enough b ≡ b
  unfolding turn trial
  turn_rests b h = ap (following sum step enough) (rest b.ended _ b h) ∙ following_rests b h

  -- so many turns more
  unfoldable pub turns : ℕ → Book → Book
  turns zero b = b
  turns (suc n) b = turn sum step enough (turns n b)

  -- ---- the book after more turns

  module _ (x : List Float) where
    pub book_next : (n : ℕ) → book sum step enough x (n + 1) ≡ following sum step enough (trial sum step enough (book sum step enough x n))
    unfolding book turn
    book_next n = ap (book sum step enough x) (add-one n)

    pub book_turns : (n k : ℕ) → book sum step enough x (n + k) ≡ turns k (book sum step enough x n)
    unfolding book turns
    book_turns n zero = ap (book sum step enough x) (add-zero n)
    book_turns n (suc k) = ap (book sum step enough x) (add-suc n k) ∙ ap (turn sum step enough) (book_turns n k)

    -- paused after a trial and gone on: what follows the trial, then the other turns
    pub book_resumed : (n k : ℕ) → book sum step enough x (n + 1 + k) ≡ turns k (following sum step enough (trial sum step enough (book sum step enough x n)))
    book_resumed n k = book_turns (n + 1) k ∙ ap (turns k) (book_next n)

    turns_rest : (k : ℕ) (b : Book) → Ended b.ended → turns k b ≡ b
    unfolding turns
    turns_rest zero b h = refl
    turns_rest (suc k) b h = ap (turn sum step enough) (turns_rest k b h) ∙ turn_rests b h

    pub stays_to : (n m : ℕ) → n ≤ m → Ended (book sum step enough x n).ended → book sum step enough x m ≡ book sum step enough x n
    stays_to n m l h = ap (book sum step enough x) (whole n m l) ∙ book_turns n (m - n) ∙ turns_rest (m - n) (book sum step enough x n) h
      where
        whole : (n m : ℕ) → n ≤ m → m ≡ n + (m - n)
        whole n m l = omega arith

-- ---- a search that goes on moves neither the best sum nor its set

pub record Same (s r : Search) : Type 0 where
  pub best : r.best ≡ s.best
  pub set : r.best_set ≡ s.best_set

pub arrival_same : (s : Search) (o : Outcome) → Same s (arrival s o).search
arrival_same s (next x size) = record { best = refl; set = refl }
arrival_same s short = record { best = refl; set = refl }
arrival_same s (refused k) = record { best = refl; set = refl }

-- ---- what a noted sum keeps, and a search that goes on, holds of the book

module _ (sum : List Float → Option Float) (step : Float → List Float → Outcome) (enough : Bool) (P : Book → Type 0)
    (keeps : (b : Book) → P b → (v : Float) → some v ≡ sum b.search.next → P (noted (some v) b))
    (goes : (b : Book) → P b → (a : After) → Same b.search a.search → P (gone_to a b)) where
  of_sum : (b : Book) → P b → (w : Option Float) → w ≡ sum b.search.next → P (noted w b)
  of_sum b p none e = goes b p _ (record { best = refl; set = refl })
  of_sum b p (some v) e = keeps b p v e

  of_ending : (g : Ending) (t b : Book) → P t → P b → P (while_running g t b)
  of_ending Running t b p q = p
  of_ending (Refused k) t b p q = q
  of_ending Short t b p q = q
  of_ending Damped t b p q = q
  of_ending Converged t b p q = q

  pub trial_keeps : (b : Book) → P b → P (trial sum step enough b)
  unfolding trial
  trial_keeps b p = of_ending b.ended _ b (of_sum b p (sum b.search.next) refl) p

  pub following_keeps : (b : Book) → P b → P (following sum step enough b)
  unfolding following
  following_keeps b p = of_ending b.ended _ b (goes b p _ (arrival_same b.search (onward sum step enough b.search))) p

  pub book_ind : (x : List Float) → P (open_book x) → (n : ℕ) → P (book sum step enough x n)
  unfolding book turn
  book_ind x p zero = p
  book_ind x p (suc n) = following_keeps _ (trial_keeps _ (book_ind x p n))

pub counted : (sum : List Float → Option Float) (step : Float → List Float → Outcome) (enough : Bool) (x : List Float) (n : ℕ)
    → (book sum step enough x n).count ≡ length (book sum step enough x n).log
unfolding open_book
counted sum step enough x =
    book_ind sum step enough (λ b. b.count ≡ length b.log) (λ b p v e. ap (◌+ 1) p ∙ sym (length-append b.log (v ∷ []))) (λ b p a s. p) x refl

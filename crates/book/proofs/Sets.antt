-- What a step keeps of a set holds of every set that a book tries and of the one that it returns. Assumes nothing.
use mathlib.Core.Path.{◌≡◌, refl}
use mathlib.Core.Bool.{Bool, true, false, cond}
use mathlib.Core.List.{List, [], ◌∷◌, ◌++◌}
use mathlib.Core.Option.{Option, none, some}
use Prim.Native.Nat.{ℕ, zero, suc}
use lib.Ieee.{Float, lt}
use Rattle.normal.specs.Step.{Outcome, next, short, refused}
use Rattle.book.specs.Book.{most_damping, Search, After, keep, leave, judged, arrival, unless_far, while_running, onward, Book, open_book, gone_to, noted, trial, following, turn, book}
use Rattle.book.specs.declared.Ending.{Ending}
use Rattle.book.specs.declared.Ending.TheVariants.{Running, Refused, Short, Damped, Converged}

unfoldable pub Each : (List Float → Type 0) → List (List Float) → Type 0
Each Q [] = Unit
Each Q (x ∷ xs) = Q x × Each Q xs

-- the sets of a book: the next, the best, and those tried
pub record Sets (Q : List Float → Type 0) (b : Book) : Type 0 where
  pub next : Q b.search.next
  pub best : Q b.search.best_set
  pub tried : Each Q b.tried

each_snoc : (Q : List Float → Type 0) (xs : List (List Float)) (x : List Float) → Each Q xs → Q x → Each Q (xs ++ (x ∷ []))
unfolding Each
each_snoc Q [] x h p = (p, tt)
each_snoc Q (y ∷ xs) x h p = (h.0, each_snoc Q xs x h.1 p)

-- the set that an outcome leads to is the step's
from_step : (w : Option Float) (e : Bool) (o : Outcome) (y : List Float) (size : Float) → unless_far w (cond e o short) ≡ next y size → o ≡ next y size
from_step none e o y size h = cc
from_step (some v) true o y size h = h
from_step (some v) false o y size h = cc

module _ (Q : List Float → Type 0) (sum : List Float → Option Float) (step : Float → List Float → Outcome) (enough : Bool)
    (keeps : (lambda : Float) (x y : List Float) (size : Float) → Q x → step lambda x ≡ next y size → Q y) where
  abbrev After_sets : After → Type 0
  After_sets a = Q a.search.next × Q a.search.best_set

  judged_sets : (v : Float) (s : Search) → Q s.next → Q s.best_set → After_sets (judged v s)
  unfolding judged
  judged_sets v s p q = go (lt v s.best)
    where
      go : (t : Bool) → After_sets (cond t (record { search = keep v s; ended = Running }) (record { search = leave s; ended = cond (lt most_damping (leave s).damping) Damped Running }))
      go true = (p, p)
      go false = (q, q)

  arrival_sets : (s : Search) (o : Outcome) → onward sum step enough s ≡ o → Q s.next → Q s.best_set → After_sets (arrival s o)
  unfolding onward
  arrival_sets s (next y size) e p q = (keeps s.damping s.next y size p (from_step (sum s.next) enough (step s.damping s.next) y size e), q)
  arrival_sets s short e p q = (p, q)
  arrival_sets s (refused k) e p q = (p, q)

  noted_sets : (w : Option Float) (b : Book) → Sets Q b → Sets Q (noted w b)
  noted_sets none b h = record { next = h.next; best = h.best; tried = h.tried }
  noted_sets (some v) b h =
      let j = judged_sets v b.search h.next h.best in
      record { next = j.0; best = j.1; tried = each_snoc Q b.tried b.search.next h.tried h.next }

  gone_sets : (b : Book) → Sets Q b → Sets Q (gone_to (arrival b.search (onward sum step enough b.search)) b)
  gone_sets b h =
      let a = arrival_sets b.search (onward sum step enough b.search) refl h.next h.best in
      record { next = a.0; best = a.1; tried = h.tried }

  of_ending : (g : Ending) (t b : Book) → Sets Q t → Sets Q b → Sets Q (while_running g t b)
  of_ending Running t b p q = p
  of_ending (Refused k) t b p q = q
  of_ending Short t b p q = q
  of_ending Damped t b p q = q
  of_ending Converged t b p q = q

  pub book_sets : (x : List Float) → Q x → (n : ℕ) → Sets Q (book sum step enough x n)
  unfolding book turn trial following open_book Each
  book_sets x p zero = record { next = p; best = p; tried = tt }
  book_sets x p (suc n) =
      let b = book sum step enough x n in
      let h = book_sets x p n in
      let t = of_ending b.ended (noted (sum b.search.next) b) b (noted_sets (sum b.search.next) b h) h in
      of_ending (trial sum step enough b).ended _ (trial sum step enough b) (gone_sets (trial sum step enough b) t) t

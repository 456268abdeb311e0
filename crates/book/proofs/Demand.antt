-- What an accepted fit's trial book says holds of every book that is not refused: what each trial keeps, and what follows.
-- Assumes nothing.
use mathlib.Core.Path.{◌≡◌, refl, sym, ap, ◌∙◌, subst}
use mathlib.Core.Bool.{Bool, true, false, cond}
use mathlib.Core.Logic.{◌⊎◌, inl, inr, ⊎_elim}
use mathlib.Core.List.{List, [], ◌∷◌, ◌++◌, append-nil, map, map-append}
use mathlib.Core.Option.{Option, none, some}
use Prim.Native.Nat.{ℕ, zero, suc, ◌+◌, ◌≤◌, ◌<◌}
use native.Mathlib.Omega.{arith}
use lib.Dec.{T}
use lib.ListN.{length, length-append}
use lib.Ieee.{Float, lt, is_nan, round}
use Rattle.float.proofs.Order.{not_nan}
use Rattle.normal.specs.Step.{Outcome}
use Rattle.float.specs.Ops.{largest}
use Rattle.book.specs.Book.{Search, After, keep, leave, judged, while_running, Book, open_book, gone_to, noted, trial, following, turn, book}
use Rattle.book.specs.declared.Ending.{Ending}
use Rattle.book.specs.declared.Ending.TheVariants.{Running, Refused, Short, Damped, Converged}
use Rattle.book.specs.Demand.{largest_sum, All, Falling, minima, kept_sets, last_of, last_set, Tried}
use Rattle.book.proofs.Order.{irrefl, not_below, at_most}
use Rattle.book.proofs.Books.{Same, book_ind, counted}

-- ---- the search after a trial

judged_kept : (v : Float) (s : Search) → lt v s.best ≡ true → (judged v s).search ≡ keep v s
unfolding judged
judged_kept v s h = rw h

judged_left : (v : Float) (s : Search) → lt v s.best ≡ false → (judged v s).search ≡ leave s
unfolding judged
judged_left v s h = rw h

-- ---- lists that grow at the end

all_map : (P Q : Float → Type 0) → ((s : Float) → P s → Q s) → (l : List Float) → All P l → All Q l
unfolding All
all_map P Q f [] h = tt
all_map P Q f (s ∷ l) h = (f s h.0, all_map P Q f l h.1)

all_snoc : (P : Float → Type 0) (l : List Float) (v : Float) → All P l → P v → All P (l ++ (v ∷ []))
unfolding All
all_snoc P [] v h p = (p, tt)
all_snoc P (s ∷ l) v h p = (h.0, all_snoc P l v h.1 p)

last_snoc : (top : Float) (l : List Float) (v : Float) → last_of top (l ++ (v ∷ [])) ≡ v
unfolding last_of
last_snoc top [] v = refl
last_snoc top (s ∷ l) v = last_snoc s l v

last_set_snoc : (xs : List (List Float)) (x : List Float) → last_set (xs ++ (x ∷ [])) ≡ some x
unfolding last_set
last_set_snoc [] x = refl
last_set_snoc (y ∷ []) x = refl
last_set_snoc (y ∷ z ∷ xs) x = last_set_snoc (z ∷ xs) x

longer : (l : List Float) (v : Float) → 0 < length (l ++ (v ∷ []))
longer l v = rw length-append (omega arith)

sums_snoc : (sum : List Float → Option Float) (xs : List (List Float)) (x : List Float) (l : List Float) (v : Float) → map sum xs ≡ map some l → some v ≡ sum x
    → map sum (xs ++ (x ∷ [])) ≡ map some (l ++ (v ∷ []))
sums_snoc sum xs x l v h e =
    map-append sum xs (x ∷ [])
    ∙ ap (◌++ (sum x ∷ [])) h
    ∙ ap (λ (w : Option Float). map some l ++ (w ∷ [])) (sym e)
    ∙ sym (map-append some l (v ∷ []))

-- ---- the kept sums and sets of one sum more

minima_snoc : (b : Float) (l : List Float) (v : Float) → minima b (l ++ (v ∷ [])) ≡ minima b l ++ cond (lt v (last_of b (minima b l))) (v ∷ []) []
unfolding minima last_of
minima_snoc b [] v = refl
minima_snoc b (s ∷ l) v = go (lt s b) (minima_snoc s l v) (minima_snoc b l v)
  where
    go : (t : Bool)
        → minima s (l ++ (v ∷ [])) ≡ minima s l ++ cond (lt v (last_of s (minima s l))) (v ∷ []) []
        → minima b (l ++ (v ∷ [])) ≡ minima b l ++ cond (lt v (last_of b (minima b l))) (v ∷ []) []
        → cond t (s ∷ minima s (l ++ (v ∷ []))) (minima b (l ++ (v ∷ [])))
        ≡ cond t (s ∷ minima s l) (minima b l) ++ cond (lt v (last_of b (cond t (s ∷ minima s l) (minima b l)))) (v ∷ []) []
    go true p q = ap (s ∷◌) p
    go false p q = q

sets_snoc : (b : Float) (l : List Float) (v : Float) (xs : List (List Float)) (x : List Float) → length l ≡ length xs
    → kept_sets b (l ++ (v ∷ [])) (xs ++ (x ∷ [])) ≡ kept_sets b l xs ++ cond (lt v (last_of b (minima b l))) (x ∷ []) []
unfolding kept_sets minima last_of
sets_snoc b [] v [] x h = refl
sets_snoc b [] v (y ∷ xs) x h = absurd (omega (arith, h))
sets_snoc b (s ∷ l) v [] x h = absurd (omega (arith, h))
sets_snoc b (s ∷ l) v (y ∷ xs) x h = let k : length l ≡ length xs = omega (arith, h) in go (lt s b) (sets_snoc s l v xs x k) (sets_snoc b l v xs x k)
  where
    go : (t : Bool)
        → kept_sets s (l ++ (v ∷ [])) (xs ++ (x ∷ [])) ≡ kept_sets s l xs ++ cond (lt v (last_of s (minima s l))) (x ∷ []) []
        → kept_sets b (l ++ (v ∷ [])) (xs ++ (x ∷ [])) ≡ kept_sets b l xs ++ cond (lt v (last_of b (minima b l))) (x ∷ []) []
        → cond t (y ∷ kept_sets s (l ++ (v ∷ [])) (xs ++ (x ∷ []))) (kept_sets b (l ++ (v ∷ [])) (xs ++ (x ∷ [])))
        ≡ cond t (y ∷ kept_sets s l xs) (kept_sets b l xs) ++ cond (lt v (last_of b (cond t (s ∷ minima s l) (minima b l)))) (x ∷ []) []
    go true p q = ap (y ∷◌) p
    go false p q = q

falling_minima : (b : Float) (l : List Float) → Falling b (minima b l)
unfolding Falling minima
falling_minima b [] = tt
falling_minima b (s ∷ l) = go (lt s b) refl (falling_minima s l) (falling_minima b l)
  where
    go : (t : Bool) → lt s b ≡ t → Falling s (minima s l) → Falling b (minima b l) → Falling b (cond t (s ∷ minima s l) (minima b l))
    go true e p q = (e, p)
    go false e p q = q

-- ---- what every trial keeps

record Sound (sum : List Float → Option Float) (tried : List (List Float)) (log kept : List Float) (best : Float) (set : List Float) : Type 0 where
  sums : map sum tried ≡ map some log
  pairs : length log ≡ length tried
  lowest : All (λ s. lt s best ≡ false) log
  keeps : kept ≡ minima largest log
  last : last_of largest kept ≡ best
  number : is_nan best ≡ false
  known : (best ≡ largest) ⊎ ((sum set ≡ some best) × (0 < length log) × (last_set (kept_sets largest log tried) ≡ some set))

abbrev SoundBook : (List Float → Option Float) → Book → Type 0
SoundBook sum b = Sound sum b.tried b.log b.kept b.search.best b.search.best_set

module _ (sum : List Float → Option Float) where
  opens : (x : List Float) → SoundBook sum (open_book x)
  unfolding open_book All minima last_of is_nan largest
  opens x = record { sums = refl; pairs = refl; lowest = tt; keeps = refl; last = refl; number = refl; known = inl refl }

  module _ (b : Book) (p : SoundBook sum b) (v : Float) (e : some v ≡ sum b.search.next) where
    pairs_snoc : length (b.log ++ (v ∷ [])) ≡ length (b.tried ++ (b.search.next ∷ []))
    pairs_snoc = length-append b.log (v ∷ []) ∙ ap (◌+ 1) p.pairs ∙ sym (length-append b.tried (b.search.next ∷ []))

    -- the last kept sum so far is the best
    bound : last_of largest (minima largest b.log) ≡ b.search.best
    bound = ap (last_of largest) (sym p.keeps) ∙ p.last

    kept_snoc : b.kept ++ cond (lt v b.search.best) (v ∷ []) [] ≡ minima largest (b.log ++ (v ∷ []))
    kept_snoc = rw (minima_snoc largest b.log v, bound, p.keeps)

    sets_now : kept_sets largest (b.log ++ (v ∷ [])) (b.tried ++ (b.search.next ∷ [])) ≡ kept_sets largest b.log b.tried ++ cond (lt v b.search.best) (b.search.next ∷ []) []
    sets_now = rw (sets_snoc largest b.log v b.tried b.search.next p.pairs, bound)

    -- whether the sum was below the best
    keeps_by : (t : Bool) → lt v b.search.best ≡ t → SoundBook sum (noted (some v) b)
    keeps_by true h =
        let best : (judged v b.search).search.best ≡ v = ap (λ (r : Search). r.best) (judged_kept v b.search h) in
        let set : (judged v b.search).search.best_set ≡ b.search.next = ap (λ (r : Search). r.best_set) (judged_kept v b.search h) in
        record {
          sums = sums_snoc sum b.tried b.search.next b.log v p.sums e;
          pairs = pairs_snoc;
          lowest = rw best (all_snoc _ b.log v (all_map _ _ (λ s q. not_below s v b.search.best q h) b.log p.lowest) (irrefl v));
          keeps = kept_snoc;
          last = rw h (last_snoc largest b.kept v ∙ sym best);
          number = ap is_nan best ∙ not_nan v b.search.best h;
          known = inr (
            ap sum set ∙ sym e ∙ ap some (sym best),
            longer b.log v,
            ap last_set sets_now ∙ rw h (last_set_snoc (kept_sets largest b.log b.tried) b.search.next) ∙ ap some (sym set),
          );
        }
    keeps_by false h =
        let best : (judged v b.search).search.best ≡ b.search.best = ap (λ (r : Search). r.best) (judged_left v b.search h) in
        let set : (judged v b.search).search.best_set ≡ b.search.best_set = ap (λ (r : Search). r.best_set) (judged_left v b.search h) in
        record {
          sums = sums_snoc sum b.tried b.search.next b.log v p.sums e;
          pairs = pairs_snoc;
          lowest = rw best (all_snoc _ b.log v p.lowest h);
          keeps = kept_snoc;
          last = rw (h, append-nil) (p.last ∙ sym best);
          number = ap is_nan best ∙ p.number;
          known = ⊎_elim
              (λ z. inl (best ∙ z))
              (λ k. inr (ap sum set ∙ k.0 ∙ ap some (sym best), longer b.log v, ap last_set sets_now ∙ rw (h, append-nil) k.2 ∙ ap some (sym set)))
              p.known;
        }

  goes : (b : Book) → SoundBook sum b → (a : After) → Same b.search a.search → SoundBook sum (gone_to a b)
  goes b p a same = rw (same.best, same.set) p

  sound : (step : Float → List Float → Outcome) (enough : Bool) (x : List Float) (n : ℕ) → SoundBook sum (book sum step enough x n)
  sound step enough x = book_ind sum step enough (SoundBook sum) (λ b p v e. keeps_by b p v e (lt v b.search.best) refl) goes x (opens x)

module _ (sum : List Float → Option Float) (step : Float → List Float → Outcome) (enough : Bool) where
  -- ---- a turn counts at most one trial

  noted_count : (w : Option Float) (b : Book) → (noted w b).count ≤ b.count + 1
  noted_count none b = omega arith
  noted_count (some v) b = omega arith

  by_ending : (g : Ending) (t b : Book) (n : ℕ) → t.count ≤ n → b.count ≤ n → (while_running g t b).count ≤ n
  by_ending Running t b n p q = p
  by_ending (Refused k) t b n p q = q
  by_ending Short t b n p q = q
  by_ending Damped t b n p q = q
  by_ending Converged t b n p q = q

  trial_count : (b : Book) → (trial sum step enough b).count ≤ b.count + 1
  unfolding trial
  trial_count b = by_ending b.ended _ b (b.count + 1) (noted_count (sum b.search.next) b) (omega arith)

  following_count : (b : Book) (n : ℕ) → b.count ≤ n → (following sum step enough b).count ≤ n
  unfolding following
  following_count b n h = by_ending b.ended _ b n h h

  pub most : (x : List Float) (n : ℕ) → (book sum step enough x n).count ≤ n
  unfolding book turn open_book
  most x zero = omega arith
  most x (suc n) =
      let h = most x n in
      let g = trial_count (book sum step enough x n) in
      following_count (trial sum step enough (book sum step enough x n)) (suc n) (omega arith)

-- ---- a book whose best sum is not above 1e11

above_limit : lt largest_sum largest ≡ true
unfolding lt largest_sum largest round
above_limit = refl

limit_number : is_nan largest_sum ≡ false
unfolding is_nan largest_sum round
limit_number = refl

pub tried : (sum : List Float → Option Float) (step : Float → List Float → Outcome) (enough : Bool) (x : List Float) (n : ℕ)
    → lt largest_sum (book sum step enough x n).search.best ≡ false → Tried sum n (book sum step enough x n)
tried sum step enough x n low = ⊎_elim
    (λ z. absurd (subst T (sym above_limit ∙ ap (lt largest_sum) (sym z) ∙ low) tt))
    (λ k. record {
      again = k.0;
      small = at_most (book sum step enough x n).search.best largest_sum s.number limit_number low;
      sums = s.sums;
      least = s.lowest;
      keeps = s.keeps;
      last = s.last;
      kept_last = k.2;
      falling = rw s.keeps (falling_minima largest (book sum step enough x n).log);
      some_trial = omega (arith, k.1, counted sum step enough x n);
      most_trials = most sum step enough x n;
      logged = sym (counted sum step enough x n);
    })
    s.known
  where
    s : SoundBook sum (book sum step enough x n)
    s = sound sum step enough x n

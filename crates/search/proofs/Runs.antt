-- The best of the bests of runs of starts is the best of all of them, however they are cut into runs. Assumes nothing.
use Rattle.std.proofs.Common.{◌≡◌, ℕ, zero, suc, ◌+◌, ◌-◌, Bool, true, false, ◌⊎◌, List, [], ◌∷◌, sym, refl, ap, ◌∙◌, inl, inr, ⊎_elim, add-zero, arith}
use native.Mathlib.Nat.{sub_self}
use lib.Ieee.{Float, lt, is_nan}
use Rattle.float.proofs.Order.{clash, trans, not_nan, split}
use Rattle.loops.specs.Loop.{for, turns}
use Rattle.loops.proofs.Laws.{for_cut, for_ind}
use Rattle.pass_set.specs.PassSet.{total}
use Rattle.float.specs.Ops.{largest}
use Rattle.search.specs.Search.{better_of, nothing, offer_of, with_start, search_of, best_of_runs}
use Rattle.search.specs.declared.Found.{Found}

-- ---- the better of two

better_new : (a b : Found) → lt b.rss a.rss ≡ true → better_of a b ≡ b
unfolding better_of
better_new a b h = rw h

better_old : (a b : Found) → lt b.rss a.rss ≡ false → better_of a b ≡ a
unfolding better_of
better_old a b h = rw h

-- better_of is associative where the middle one is no NaN
module _ (a b c : Found) (n : is_nan b.rss ≡ false) where
  not_later : lt b.rss a.rss ≡ false → lt c.rss b.rss ≡ false → (t : Bool) → lt c.rss a.rss ≡ t → lt c.rss a.rss ≡ false
  not_later h g false e = e
  not_later h g true e = clash (sym g ∙ split c.rss a.rss b.rss n e h)

  by_cases : (s t : Bool) → lt b.rss a.rss ≡ s → lt c.rss b.rss ≡ t → better_of (better_of a b) c ≡ better_of a (better_of b c)
  by_cases true true h g = rw (better_new a b h, better_new b c g, better_new a c (trans c.rss b.rss a.rss g h)) refl
  by_cases true false h g = rw (better_new a b h, better_old b c g) (sym (better_new a b h))
  by_cases false true h g = rw (better_old a b h, better_new b c g)
  by_cases false false h g = rw (better_old a b h, better_old b c g, better_old a b h) (better_old a c (not_later h g (lt c.rss a.rss) refl))

  pub better_assoc : better_of (better_of a b) c ≡ better_of a (better_of b c)
  better_assoc = by_cases (lt b.rss a.rss) (lt c.rss b.rss) refl refl

better_number : (a b : Found) (t : Bool) → lt b.rss a.rss ≡ t → is_nan a.rss ≡ false → is_nan (better_of a b).rss ≡ false
better_number a b true h n = rw (better_new a b h) (not_nan b.rss a.rss h)
better_number a b false h n = rw (better_old a b h) n

-- ---- a run that begins with a best in hand

module _ (sum : Float → Float → Float) where
  carried : (k i : ℕ) (a b : Found) → is_nan b.rss ≡ false → turns (with_start sum) k i (better_of a b) ≡ better_of a (turns (with_start sum) k i b)
  unfolding turns with_start
  carried zero i a b n = refl
  carried (suc k) i a b n =
      rw (better_assoc a b (offer_of sum i) n)
      (carried k (i + 1) a (better_of b (offer_of sum i)) (better_number b (offer_of sum i) (lt (offer_of sum i).rss b.rss) refl n))

  -- not above the largest f64, as every best is
  at_most : (a b : Found) (s t : Bool) → lt b.rss a.rss ≡ s → lt largest b.rss ≡ t → lt largest a.rss ≡ false → lt largest (better_of a b).rss ≡ false
  at_most a b false t h g e = rw (better_old a b h) e
  at_most a b true false h g e = rw (better_new a b h) g
  at_most a b true true h g e = clash (sym e ∙ trans largest b.rss a.rss g h)

  kept_most : (first n : ℕ) (b : Found) → lt largest b.rss ≡ false → lt largest (for first (first + n) (with_start sum) b).rss ≡ false
  unfolding with_start
  kept_most first n b h =
      for_ind (with_start sum) (λ j u. lt largest u.rss ≡ false) first (first + n) b (omega arith) h
      (λ j u x y e. at_most u (offer_of sum j) (lt (offer_of sum j).rss u.rss) (lt largest (offer_of sum j).rss) refl refl e)

  run_after : (first n : ℕ) (b : Found) → lt largest b.rss ≡ false → for first (first + n) (with_start sum) b ≡ better_of b (search_of sum first n)
  unfolding for search_of is_nan largest
  run_after first n b h =
      ap (turns (with_start sum) (first + n - first) first) (sym (better_old b nothing h)) ∙ carried (first + n - first) first b nothing refl

  none_yet : lt largest nothing.rss ≡ false
  unfolding lt largest
  none_yet = refl

  pub two_runs : (first m n : ℕ) → search_of sum first (m + n) ≡ better_of (search_of sum first m) (search_of sum (first + m) n)
  unfolding search_of
  two_runs first m n = for_cut (with_start sum) first m n nothing ∙ run_after (first + m) n (search_of sum first m) (kept_most first m nothing none_yet)

  runs : (ns : List ℕ) (first : ℕ) (b : Found) → lt largest b.rss ≡ false → best_of_runs sum first ns b ≡ for first (first + total ns) (with_start sum) b
  unfolding best_of_runs total for turns
  runs [] first b h = rw (add-zero first, sub_self first)
  runs (n ∷ ns) first b h =
      rw (← run_after first n b h)
      (runs ns (first + n) (for first (first + n) (with_start sum) b) (kept_most first n b h) ∙ sym (for_cut (with_start sum) first n (total ns) b))

  -- however the starts from `first` on are cut into runs
  pub cutting : (ns : List ℕ) (first : ℕ) → best_of_runs sum first ns nothing ≡ search_of sum first (total ns)
  unfolding search_of
  cutting ns first = runs ns first nothing none_yet

  -- ---- what a run offers: nothing, or a sum below the largest f64

  pub empty_run : (first : ℕ) → search_of sum first 0 ≡ nothing
  unfolding search_of for turns
  empty_run first = rw (add-zero first, sub_self first)

  -- a run that offers nothing changes nothing
  pub no_offer : (b : Found) → lt largest b.rss ≡ false → better_of b nothing ≡ b
  no_offer b h = better_old b nothing h

  offer : (u t : Found) (s : Bool) → lt t.rss u.rss ≡ s → (u ≡ nothing) ⊎ (lt u.rss largest ≡ true) → (better_of u t ≡ nothing) ⊎ (lt (better_of u t).rss largest ≡ true)
  offer u t false h o = rw (better_old u t h) o
  offer u t true h o = rw (better_new u t h) (⊎_elim (λ e. inr (rw e at h)) (λ l. inr (trans t.rss u.rss largest h l)) o)

  pub offers : (first n : ℕ) → (search_of sum first n ≡ nothing) ⊎ (lt (search_of sum first n).rss largest ≡ true)
  unfolding search_of with_start
  offers first n =
      for_ind (with_start sum) (λ j u. (u ≡ nothing) ⊎ (lt u.rss largest ≡ true)) first (first + n) nothing (omega arith) (inl refl)
      (λ j u x y o. offer u (offer_of sum j) (lt (offer_of sum j).rss u.rss) refl o)

-- The table that the code makes, column by column, holds the Jacobian's entries; it is refused where some moved set is. Assumes nothing.
use mathlib.Core.Path.{◌≡◌, refl, ◌∙◌}
use mathlib.Core.Bool.{Bool, true, false, ◌||◌}
use mathlib.Core.List.{List}
use mathlib.Core.Option.{Option, none, some}
use Prim.Native.Nat.{ℕ, zero, suc, ◌+◌, ◌*◌, ◌<◌}
use native.Mathlib.Nat.{not-suc-le-zero, sub-zero}
use native.Mathlib.Decide.{ℕ_discrete}
use native.Mathlib.Omega.{arith}
use lib.ListN.{length, length-set}
use lib.Seq.{get_or-set_same, get_or-set_other}
use lib.Ieee.{Float, nan}
use Rattle.float.specs.Ops.{at}
use Rattle.std.specs.Bool.{⊤}
use Rattle.std.proofs.Common.{Ok, Err}
use Rattle.refusal.specs.declared.Refusal.{Refusal}
use Rattle.loops.specs.Loop.{for, next, tried, try}
use Rattle.loops.proofs.Laws.{for_ind}
use Rattle.residuals.specs.Answers.{Filled}
use Rattle.refine.specs.Jacobian.{perturbed_of, quotient, is_far_set, entry_of, any_far, put_entry, put_column, column_of}
use Rattle.normal.proofs.Places.{place_below, apart}

-- ---- one column

module _ (m n k : ℕ) (ε : Float) (r c s : List Float) (hk : k < n) where
  -- after i rows
  record Part (i : ℕ) (t : List Float) : Type 0 where
    long : length t ≡ m * n
    here : (row : ℕ) → row < m → row < i → at t (row * n + k) ≡ quotient ε (at c row) (at r row)
    others : (row j : ℕ) → j < n → (j ≡ k → ⊥) → at t (row * n + j) ≡ at s (row * n + j)

  put_long : (i : ℕ) (t : List Float) → length (put_entry n ε k r c i t) ≡ length t
  unfolding put_entry
  put_long i t = simp length-set

  put_here : (i : ℕ) (t : List Float) → i < m → length t ≡ m * n → at (put_entry n ε k r c i t) (i * n + k) ≡ quotient ε (at c i) (at r i)
  unfolding put_entry
  put_here i t h l = get_or-set_same t (i * n + k) _ nan (omega (arith, place_below m n i k h hk))

  put_else : (i row j : ℕ) (t : List Float) → (row * n + j ≡ i * n + k → ⊥) → at (put_entry n ε k r c i t) (row * n + j) ≡ at t (row * n + j)
  unfolding put_entry
  put_else i row j t h = get_or-set_other t (i * n + k) (row * n + j) _ nan h

  turn : (i : ℕ) (t : List Float) → i < m → Part i t → Part (i + 1) (put_entry n ε k r c i t)
  turn i t hi p =
      record {
        long = put_long i t ∙ p.long;
        here = λ row h l. go row h l (ℕ_discrete row i);
        others = λ row j hj ne. put_else i row j t (λ e. ne (apart n row i j k hj hk e).1) ∙ p.others row j hj ne;
      }
    where
      go : (row : ℕ) → row < m → row < i + 1 → Dec (row ≡ i) → at (put_entry n ε k r c i t) (row * n + k) ≡ quotient ε (at c row) (at r row)
      go row h l (yes e) = rw e (put_here i t hi p.long)
      go row h l (no ne) = put_else i row k t (λ e. ne (apart n row i k k hk hk e).0) ∙ p.here row h (omega arith)

  put_all : length s ≡ m * n → Part m (for 0 m (put_entry n ε k r c) s)
  put_all l =
      for_ind (put_entry n ε k r c) Part 0 m s (omega arith)
      (record { long = l; here = λ row h l. absurd (not-suc-le-zero l); others = λ row j hj ne. refl })
      (λ i t h l p. turn i t l p)

-- ---- all columns

module _ (eps : ℕ → Float) (res : List Float → Option (List Float)) (x r : List Float) (m n : ℕ) (known : some r ≡ res x) where
  -- the columns before k are made
  record Upto (k : ℕ) (t : List Float) : Type 0 where
    long : length t ≡ m * n
    done : (row j : ℕ) → row < m → j < n → j < k → at t (row * n + j) ≡ entry_of eps res x row j

  entry_is : (c : List Float) (row k : ℕ) → res (perturbed_of x k (eps k)) ≡ some c → quotient (eps k) (at c row) (at r row) ≡ entry_of eps res x row k
  unfolding entry_of
  entry_is c row k e = rw (e, ← known)

  data Result : Option (List Float) → Bool → Type 0 where
    refused : Result none true
    tabled : {t : List Float} → Upto n t → Result (some t) false

  column_made : (k : ℕ) (c t : List Float) → k < n → res (perturbed_of x k (eps k)) ≡ some c → Upto k t → Upto (k + 1) (for 0 m (put_entry n (eps k) k r c) t)
  column_made k c t hk e p =
      record { long = q.long; done = λ row j h hj l. go row j h hj l (ℕ_discrete j k) }
    where
      q : Part m n k (eps k) r c t hk m (for 0 m (put_entry n (eps k) k r c) t)
      q = put_all m n k (eps k) r c t hk p.long

      go : (row j : ℕ) → row < m → j < n → j < k + 1 → Dec (j ≡ k) → at (for 0 m (put_entry n (eps k) k r c) t) (row * n + j) ≡ entry_of eps res x row j
      go row j h hj l (yes w) = rw w (q.here row h h ∙ entry_is c row k e)
      go row j h hj l (no ne) = q.others row j hj ne ∙ p.done row j h hj (omega arith)

  turned : (w : Option (List Float)) (k i : ℕ) (t : List Float) → res (perturbed_of x i (eps i)) ≡ w → i < n → Upto i t
      → ((u : List Float) → Upto (i + 1) u → Result (tried (column_of eps res x r m n) k (i + 1) u) (any_far eps res x k (i + 1)))
      → Result (next (put_column m n (eps i) i r w t) (tried (column_of eps res x r m n) k (i + 1))) (is_far_set w || any_far eps res x k (i + 1))
  turned none k i t e h p more = refused
  turned (some c) k i t e h p more = more _ (column_made i c t h e p)

  through : (k i : ℕ) (t : List Float) → i + k ≡ n → Upto i t → Result (tried (column_of eps res x r m n) k i t) (any_far eps res x k i)
  unfolding tried any_far column_of
  through zero i t e p = let here : i ≡ n = omega arith in tabled (rw here at p)
  through (suc k) i t e p = turned (res (perturbed_of x i (eps i))) k i t refl (omega arith) p (λ u q. through k (i + 1) u (omega arith) q)

  whole : (t : List Float) → length t ≡ m * n → Result (try 0 n (column_of eps res x r m n) t) (any_far eps res x n 0)
  unfolding try
  whole t l = rw sub-zero (through n 0 t (omega arith) (record { long = l; done = λ row j h hj k. absurd (not-suc-le-zero k) }))

  pub table_far : (e : Refusal) (t u : List Float) → length t ≡ m * n → Filled (Err e) u (try 0 n (column_of eps res x r m n) t) → any_far eps res x n 0 ≡ true
  table_far e t u l p = go (try 0 n (column_of eps res x r m n) t) (any_far eps res x n 0) p.written (whole t l)
    where
      go : (o : Option (List Float)) (b : Bool) → none ≡ o → Result o b → b ≡ true
      go none b q refused = refl
      go (some v) b q (tabled w) = cc

  pub record Tabled (u : List Float) : Type 0 where
    pub near : any_far eps res x n 0 ≡ false
    pub long : length u ≡ m * n
    pub holds : (row j : ℕ) → row < m → j < n → at u (row * n + j) ≡ entry_of eps res x row j

  pub table_done : (y : ⊤) (t u : List Float) → length t ≡ m * n → Filled (Ok y) u (try 0 n (column_of eps res x r m n) t) → Tabled u
  table_done y t u l p = go (try 0 n (column_of eps res x r m n) t) (any_far eps res x n 0) refl p.written (whole t l)
    where
      go : (o : Option (List Float)) (b : Bool) → any_far eps res x n 0 ≡ b → some u ≡ o → Result o b → Tabled u
      go none b a q refused = absurd (omega (arith, never q))
        where
          never : some u ≡ none → ◌≡◌ {A = ℕ} 0 1
          never q = cc
      go (some v) b a q (tabled w) =
          let same : u ≡ v = cc in
          record { near = a; long = rw same w.long; holds = λ row j h hj. rw same (w.done row j h hj hj) }

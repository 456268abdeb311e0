-- Each ending of `solve_linear_system`, from the tests and the calls that lead there.
use mathlib.Core.Path.{◌≡◌, refl, sym, ◌∙◌}
use mathlib.Core.Bool.{Bool, true, false, cond, not}
use mathlib.Core.List.{List, ◌++◌}
use mathlib.Core.Option as state
use Prim.Native.Nat.{ℕ, ◌+◌, ◌*◌, ◌≤◌, ◌<◌}
use borrow.Author.Tests.{lt-ltb, le-ltb, eq-eqb, ne_eqb, eqb-true, eqb-false, not-true, not-false}
use lib.ListN.{length, take, drop, replicate, take-append-drop}
use lib.Ieee.{Float}
use Rattle.std.proofs.Common.{Option, Some, None, Result, Err, SomeIff, ltb, eqb, ◌^◌}
use Rattle.std.specs.Option.{option_eq}
use Rattle.float.specs.Ops.{bits}
use Rattle.loops.specs.Loop.{is_some}
use Rattle.refusal.specs.Numbers as numbers
use Rattle.refusal.specs.Refusals.{number_of, answer}
use Rattle.refusal.specs.declared.Refusal.{Refusal}
use Rattle.refusal.specs.declared.Refusal.TheVariants.{Sizes, Limits, ShortMemory, SmallPivot}
use Rattle.linear.specs.Elimination.{solution_of}
use Rattle.linear.specs.Answer.{system_refusal, Eliminates, out_of, scratch_of, Solves}

module _ (n : ℕ) (m v o s : List Float) where
  -- refused before any work, by one of the numbers up to 21
  early : (r : Refusal) → ltb (number_of r) numbers.small_pivot ≡ true → system_refusal n m v (length o) (length s) ≡ Some r → Solves n m v o o s s (Err r)
  early r q e = record { answer = rw e; out = rw e; scratch = rw (e, q) }

  pub vector_off : (length v ≡ n → ⊥) → Solves n m v o o s s (Err Sizes)
  unfolding system_refusal
  vector_off h = early Sizes refl (rw (ne_eqb _ _ h))

  pub matrix_off : length v ≡ n → (length m ≡ n * n → ⊥) → Solves n m v o o s s (Err Sizes)
  unfolding system_refusal
  matrix_off ev h = early Sizes refl (rw (eq-eqb _ _ ev, ne_eqb _ _ h))

  module _ (ev : length v ≡ n) (em : length m ≡ n * n) where
    pub too_many : 68 < n → Solves n m v o o s s (Err Limits)
    unfolding system_refusal
    too_many h = early Limits refl (rw (eq-eqb _ _ ev, eq-eqb _ _ em, lt-ltb _ _ h))

    pub out_short : n ≤ 68 → length o < n → Solves n m v o o s s (Err ShortMemory)
    unfolding system_refusal
    out_short h k = early ShortMemory refl (rw (eq-eqb _ _ ev, eq-eqb _ _ em, le-ltb _ _ h, lt-ltb _ _ k))

    pub scratch_short : n ≤ 68 → n ≤ length o → length s < n * (n + 1) → Solves n m v o o s s (Err ShortMemory)
    unfolding system_refusal
    scratch_short h k l = early ShortMemory refl (rw (eq-eqb _ _ ev, eq-eqb _ _ em, le-ltb _ _ h, le-ltb _ _ k, lt-ltb _ _ l))

    -- the work is done: x is what it left in the solution's places, s₁ in the scratch, which is cleared to z
    module _ (h : n ≤ 68) (k : n ≤ length o) (l : n * (n + 1) ≤ length s) where
      pub worked : system_refusal n m v (length o) (length s) ≡ cond (is_some (solution_of n m v)) None (Some SmallPivot)
      unfolding system_refusal
      worked = rw (eq-eqb _ _ ev, eq-eqb _ _ em, le-ltb _ _ h, le-ltb _ _ k, le-ltb _ _ l) (pivot (is_some (solution_of n m v)))
        where
          pivot : (b : Bool) → cond (not b) (Some SmallPivot) None ≡ cond b None (Some SmallPivot)
          pivot true = refl
          pivot false = refl

      settled : (t : state.Option (List Float)) (r : Result (Unit {0}) Refusal) (x z : List Float) → Eliminates r (take n o) x t → z ≡ replicate (length s) (bits 0)
          → let k = cond (is_some t) None (Some SmallPivot) in (r ≡ answer k tt) × (x ++ drop n o ≡ out_of k t n o) × (z ≡ scratch_of k s)
      settled state.none r x z p e = (p.answer, rw p.left.held (take-append-drop n o), e)
      settled (state.some y) r x z p e = (p.answer, rw p.left.held, e)

      pub ended : (r : Result (Unit {0}) Refusal) (x s₁ z : List Float) → Eliminates r (take n o) x (solution_of n m v) → length s₁ ≡ length s → z ≡ replicate (length s₁) (bits 0)
          → Solves n m v o (x ++ drop n o) s z r
      ended r x s₁ z p len e =
          let q = settled (solution_of n m v) r x z p (rw len at e) in
          record { answer = rw worked q.0; out = rw worked q.1; scratch = rw worked q.2 }

-- what the test of the product tells: k is n × n, or not
pub is_square : (k n : ℕ) (o : Option ℕ) (b : Bool) → SomeIff o (n * n < 2 ^ 64) (n * n) → b ≡ not (option_eq eqb o (Some k)) → b ≡ false → k ≡ n * n
is_square k n None b s e f = cc
is_square k n (Some x) b s e f = sym (eqb-true x k (not-false _ (sym e ∙ f))) ∙ s.1

pub no_square : (k n : ℕ) (o : Option ℕ) (b : Bool) → k < 2 ^ 64 → SomeIff o (n * n < 2 ^ 64) (n * n) → b ≡ not (option_eq eqb o (Some k)) → b ≡ true → k ≡ n * n → ⊥
no_square k n None b l s e f q = s (rw q at l)
no_square k n (Some x) b l s e f q = eqb-false x k (not-true _ (sym e ∙ f)) (s.1 ∙ sym q)

-- What `solve_linear_system` answers, writes and leaves, for every input.
use Rattle.std.specs.Prelude.{◌≡◌, cond, not, ◌&&◌, ◌||◌, List, [], ◌∷◌, ◌++◌, ℕ, ◌+◌, ◌*◌, ltb, eqb, length, drop, replicate, Float, Option, Some, None, Result, Ok, Err, is_ok, ⊤}
use Rattle.std.proofs.Math.Option as state
use Rattle.float.specs.Ops.{bits}
use Rattle.loops.specs.Loop.{is_some, or_else, Made, Settled}
use Rattle.refusal.specs.Numbers as numbers
use Rattle.refusal.specs.Refusals.{number_of, first_of, ◌when◌, answer}
use Rattle.refusal.specs.declared.Refusal.{Refusal}
use Rattle.refusal.specs.declared.Refusal.TheVariants.{Sizes, Limits, ShortMemory, SmallPivot}
use Rattle.linear.specs.Elimination.{solution_of}

-- a call's refusal, with o places lent for the solution and s to work in
unfoldable pub system_refusal : ℕ → List Float → List Float → ℕ → ℕ → Option Refusal
system_refusal n m v o s =
    first_of (
    (Sizes when not (eqb (length v) n && eqb (length m) (n * n)))
    ∷ (Limits when ltb 68 n)
    ∷ (ShortMemory when (ltb o n || ltb s (n * (n + 1))))
    ∷ (SmallPivot when not (is_some (solution_of n m v)))
    ∷ [])

-- what a step that meets its pivots answers, of whose state nothing is left where one is too small
abbrev pub pivoted : {S : Type 0} → state.Option S → Result ⊤ Refusal
pivoted state.none = Err SmallPivot
pivoted (state.some s) = Ok tt

-- a step on a state, which is s after it
pub record Reduces {S : Type 0} (r : Result ⊤ Refusal) (s : S) (t : state.Option S) : Type 0 where
  pub answer : r ≡ pivoted t
  pub left : Made (is_ok r) s t

-- the whole: s is the output before it, s' after
pub record Eliminates {S : Type 0} (r : Result ⊤ Refusal) (s s' : S) (t : state.Option S) : Type 0 where
  pub answer : r ≡ pivoted t
  pub left : Settled (is_ok r) s s' t

-- the lent output: the solution in its first n places, unless refused
abbrev pub out_of : Option Refusal → state.Option (List Float) → ℕ → List Float → List Float
out_of None t n o = or_else t [] ++ drop n o
out_of (Some r) t n o = o

-- the lent scratch: untouched up to 21, all zeros after
abbrev pub scratch_of : Option Refusal → List Float → List Float
scratch_of None s = replicate (length s) (bits 0)
scratch_of (Some r) s = cond (ltb (number_of r) numbers.small_pivot) s (replicate (length s) (bits 0))

pub record Solves (n : ℕ) (m v o o' s s' : List Float) (r : Result ⊤ Refusal) : Type 0 where
  pub answer : r ≡ answer (system_refusal n m v (length o) (length s)) tt
  pub out : o' ≡ out_of (system_refusal n m v (length o) (length s)) (solution_of n m v) n o
  pub scratch : s' ≡ scratch_of (system_refusal n m v (length o) (length s)) s

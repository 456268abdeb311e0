-- What the calls answer, for every input: document 01's refusals, in its order, and the values.
use Rattle.std.specs.Prelude.{◌≡◌, ℕ, not, List, [], ◌∷◌, ◌++◌, length, drop, nat_lt, Float, Option, Result, ⊤}
use Rattle.refusal.specs.Refusals.{first_of, ◌when◌, answer, written}
use Rattle.refusal.specs.declared.Refusal.{Refusal}
use Rattle.refusal.specs.declared.Refusal.TheVariants.{Limits, ShortMemory}
use Rattle.monna.specs.Digits.{is_base, monna_of, inverse_of, distance_of}
use Rattle.monna.specs.History.{differences_of}

unfoldable pub base_refusal : ℕ → Option Refusal
base_refusal p = first_of ((Limits when not (is_base p)) ∷ [])

-- n digits
unfoldable pub digits_refusal : ℕ → ℕ → Option Refusal
digits_refusal p n = first_of ((Limits when not (is_base p)) ∷ (Limits when nat_lt 16 n) ∷ [])

-- n numbers, o places lent
unfoldable pub history_refusal : ℕ → ℕ → Option Refusal
history_refusal n o = first_of ((Limits when nat_lt 64 n) ∷ (ShortMemory when nat_lt o n) ∷ [])

unfoldable pub monna_map_of : ℕ → ℕ → Result Float Refusal
monna_map_of v p = answer (base_refusal p) (monna_of v p)

unfoldable pub p_adic_distance_of : ℕ → ℕ → ℕ → Result Float Refusal
p_adic_distance_of a b p = answer (base_refusal p) (distance_of a b p)

unfoldable pub inverse_monna_map_of : Float → ℕ → ℕ → Result ℕ Refusal
inverse_monna_map_of x p n = answer (digits_refusal p n) (inverse_of x p n)

-- the lent output: the differences in its first places, unless refused
abbrev pub history_out : Option Refusal → List Float → List Float → List Float
history_out r x o = written r (differences_of x ++ drop (length x) o) o

pub record Differs (x o o' : List Float) (r : Result ⊤ Refusal) : Type 0 where
  pub answered : r ≡ answer (history_refusal (length x) (length o)) tt
  pub out : o' ≡ history_out (history_refusal (length x) (length o)) x o

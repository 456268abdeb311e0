-- What is told of a pass set that is no refusal of it, and which pass a refusal is of.
use Rattle.std.specs.Prelude.{◌≡◌, Bool, true, false, not, cond, ◌&&◌, List, [], ◌∷◌, ℕ, zero, suc, ◌≤◌, eqb, ℤ, Float, length, Option, Some, None, Result, Ok, Err}
use Rattle.std.specs.Int.Signed.{lt_z}
use Rattle.std.specs.Float.Ieee.{eq}
use Rattle.pass_set.specs.PassSet.{total, count_of, pass_of}
use Rattle.arguments.specs.Refusals.{any_nan}
use Rattle.passes.specs.File.{answer, name_at}
use Rattle.passes.specs.declared.file.PassFile.{PassFile}
use Rattle.passes.specs.declared.pieces.Span.{Span}
use Rattle.refusal.specs.declared.Refusal.{Refusal}

-- the first of n numbers from p on that passes the test
unfoldable pub first_of : (ℕ → Bool) → ℕ → ℕ → Option ℕ
first_of test p zero = None
first_of test p (suc n) = cond (test p) (Some p) (first_of test (suc p) n)

-- the first pass that has a frequency that is NaN
unfoldable pub nan_pass : List ℕ → List Float → Option ℕ
nan_pass counts freqs = first_of (λ p. any_nan (pass_of counts p freqs)) 0 (length counts)

-- two lists have one length and like elements
unfoldable pub same : {A : Type 0} → (A → A → Bool) → List A → List A → Bool
same like [] [] = true
same like [] (y ∷ ys) = false
same like (x ∷ xs) [] = false
same like (x ∷ xs) (y ∷ ys) = like x y && same like xs ys

-- neither time is before the other
unfoldable pub level : ℤ → ℤ → Bool
level t u = not (lt_z t u) && not (lt_z u t)

-- pass p has samples, and pass q has the same ones: times and frequencies. Two passes without any are not told to be one.
unfoldable pub alike : List ℕ → List ℤ → List Float → ℕ → ℕ → Bool
alike counts times freqs p q =
    not (eqb (count_of counts p) 0)
    && (same level (pass_of counts p times) (pass_of counts q times) && same eq (pass_of counts p freqs) (pass_of counts q freqs))

-- the first pass before q that is like it
unfoldable pub twin_of : List ℕ → List ℤ → List Float → ℕ → Option ℕ
twin_of counts times freqs q = first_of (λ p. alike counts times freqs p q) 0 q

-- at most 16 counts, which add up to so many samples
pub record Whole (counts : List ℕ) (samples : ℕ) : Type 0 where
  pub few : length counts ≤ 16
  pub whole : total counts ≡ samples

-- a file that was read so has a name, and another than this
abbrev pub part_other : List ℕ → List ℕ → Option Span → Bool
part_other name file (Some n) = not (same eqb name (name_at file n))
part_other name file None = false

abbrev pub named_other : List ℕ → List ℕ → Result PassFile Refusal → Bool
named_other name file (Ok r) = part_other name file r.name
named_other name file (Err k) = false

-- of a file with room for 4,096 samples, which is what a pass set takes; a refused file has no name
unfoldable pub other_name : List ℕ → List ℕ → Bool
other_name name file = named_other name file (answer file 4096 4096)

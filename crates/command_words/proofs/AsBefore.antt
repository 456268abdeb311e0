-- X Y Z say what they said before document 02 [1] brought position lines: the definition of then, and that the one of now agrees with it wherever the
-- first word is a number. Assumes nothing.
use mathlib.Core.Path.{◌≡◌, subst, sym}
use mathlib.Core.Bool.{Bool, false, cond}
use mathlib.Core.List.{List}
use Prim.Native.Nat.{ℕ, ◌+◌, ◌-◌, ◌≤◌}
use native.Mathlib.Nat.{le_refl}
use lib.Dec.{ltb}
use lib.ListN.{length}
use borrow.Author.Tests.{le-ltb}
use Rattle.float.specs.Ops.{radians_of}
use lib.Ieee.{Float}
use Rattle.decimal.specs.Read.{Number, number}
use Rattle.std.proofs.Common.{Result, Ok, Err}
use Rattle.decimal.specs.declared.read.NumberError.TheVariants.{NotANumber}
use Rattle.geodetic.proofs.Total.{number_no_comma}
use Rattle.command_words.specs.Words.{is_line, numbered, and_then, mast_of, request_of}
use Rattle.command_words.specs.declared.Mast.{Mast}
use Rattle.command_words.specs.declared.MastError.{MastError}
use Rattle.command_words.specs.declared.Request.{Request}
use Rattle.command_words.specs.declared.WordsError.{WordsError}
use Rattle.command_words.specs.declared.WordsError.TheVariants.{TooFew, TooMany}

-- what follows from word k, if it is a number
abbrev if_number : {A : Type 0} → ℕ → Number → (Float → Result A MastError) → Result A MastError
if_number k n next = and_then (numbered k n) next

-- of four words; the first that is no number answers
abbrev pub mast_before : List ℕ → List ℕ → List ℕ → List ℕ → Result Mast MastError
mast_before x y z i =
    if_number 1 (number x) (λ a. if_number 2 (number y) (λ b. if_number 3 (number z) (λ c. if_number 4 (number i) (λ d. Ok (record { rec_ecef = record { x = a; y = b; z = c }; initial_i = radians_of d })))))

-- the program's name and four numbers, then 1 to 16 files, the first behind the numbers
abbrev pub request_before : Bool → ℕ → List ℕ → List ℕ → List ℕ → List ℕ → Result Request WordsError
request_before received n x y z i =
    cond (ltb n 6) (Err TooFew) (cond (ltb 21 n) (Err TooMany)
    (Ok (record { mast = mast_before x y z i; layout = record { received = received; first = cond received 2 1 + 4; files = n - 5 } })))

-- a number is no position line
number_no_line : (x : List ℕ) → (number x ≡ Err NotANumber → ⊥) → is_line x ≡ false
unfolding is_line
number_no_line x h = le-ltb _ _ (subst (λ (n : ℕ). length x ≤ n) (sym (number_no_comma x h)) (le_refl (length x)))

pub request_as_before : (received : Bool) (n : ℕ) (x y z i : List ℕ) → (number x ≡ Err NotANumber → ⊥) → request_of received n x y z i ≡ request_before received n x y z i
unfolding request_of mast_of
request_as_before received n x y z i h = simp (number_no_line x h)

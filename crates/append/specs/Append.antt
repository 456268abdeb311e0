-- Text put into a lent buffer.
use Rattle.std.specs.Prelude.{ℕ, zero, suc, ◌+◌, ◌^◌, min, ◌≡◌, cond, List, [], ◌∷◌, ◌++◌, leb, length}
use Rattle.std.proofs.lemmas.List.Edits.{sets}
use Rattle.decimal.specs.Fixed.{digit_at}
use Rattle.append.specs.declared.Text.{Text}

-- `text` from place `at` on, what finds no room left out, and `next` the place behind it
pub record Appends (text : List ℕ) (at : ℕ) (out out' : List ℕ) (next : ℕ) : Type 0 where
  pub is : out' ≡ sets out at text
  pub behind : next ≡ min (at + length text) (length out)

-- a buffer with these bytes in it and no text yet
pub record Begins (out : List ℕ) (t : Text) : Type 0 where
  pub buffer : t.out.now ≡ out
  pub at_first : t.at ≡ 0

-- `text` is put behind what was there, into the same buffer
pub record Puts (text : List ℕ) (t t' : Text) : Type 0 where
  pub appends : Appends text t.at t.out.now t'.out.now t'.at
  pub same_buffer : t'.out.ghost_name ≡ t.out.ghost_name

-- the digit of n at 10 ^ i, where n has one there
abbrev pub leading_of : ℕ → ℕ → List ℕ
leading_of n i = cond (leb (10 ^ i) n) (digit_at n i ∷ []) []

-- n's digits from 10 ^ i down; the last one stands for a zero too
unfoldable pub digits_from : ℕ → ℕ → List ℕ
digits_from n zero = digit_at n 0 ∷ []
digits_from n (suc i) = leading_of n (suc i) ++ digits_from n i

-- n in decimal digits, 20 at most, no zeros in front
abbrev pub numeral : ℕ → List ℕ
numeral n = digits_from n 19

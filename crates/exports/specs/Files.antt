-- What the reader of a pass file gives: the number of a refusal, or 0, the samples, the numbers beside them and the centre frequency.
use Rattle.std.specs.Prelude.{ℕ, ◌≡◌, List, ◌∷◌, [], ℤ, Float, length, Option, Some, None, Result, Ok, Err}
use Rattle.refusal.specs.declared.Refusal.{Refusal}
use Rattle.refusal.specs.Refusals.{status_of}
use Rattle.passes.specs.File.{Reads, answer}
use Rattle.passes.specs.declared.pieces.Span.{Span}
use Rattle.passes.specs.declared.file.PassFile.{PassFile}

-- count, the name's start and end, and 1 where a name was seen
abbrev pub counted_name : ℕ → Option Span → List ℕ
counted_name n (Some p) = n ∷ p.start ∷ p.end ∷ 1 ∷ []
counted_name n None = n ∷ 0 ∷ 0 ∷ 0 ∷ []

abbrev pub numbers_in : PassFile → List ℕ
numbers_in r = counted_name r.count r.name

-- refused: what was there
abbrev pub numbers_of : List ℕ → Result PassFile Refusal → List ℕ
numbers_of old (Ok r) = numbers_in r
numbers_of old (Err k) = old

abbrev pub center_after : Float → Result PassFile Refusal → Float
center_after old (Ok r) = r.center_freq
center_after old (Err k) = old

pub record FileGiven (file : List ℕ) (times times' : List ℤ) (freqs freqs' : List Float) (numbers numbers' : List ℕ) (center center' : Float) (k : ℕ) : Type 0 where
  pub reads : Reads file times times' freqs freqs' (answer file (length times) (length freqs))
  pub number : k ≡ status_of (answer file (length times) (length freqs))
  pub put_numbers : numbers' ≡ numbers_of numbers (answer file (length times) (length freqs))
  pub put_center : center' ≡ center_after center (answer file (length times) (length freqs))

-- Bytes as text: lines, blanks at their ends, and the first place of a byte.
use Rattle.std.specs.Prelude.{ℕ, suc, ◌+◌, ◌-◌, ◌≤◌, ◌<◌, ◌≡◌, Bool, true, false, ◌&&◌, cond, List, [], ◌∷◌, ◌++◌, leb, ltb, eqb, length, take, drop}
use Rattle.text.specs.Text.{code}

-- a line, and where it begins in its file
pub record Placed : Type 0 where
  pub at : ℕ
  pub bytes : List ℕ

-- cs before the first line, which then begins at `at`
unfoldable pub push : ℕ → List ℕ → List Placed → List Placed
push at cs [] = record { at = at; bytes = cs } ∷ []
push at cs (l ∷ ls) = record { at = at; bytes = cs ++ l.bytes } ∷ ls

unfoldable pub starts_lf : List ℕ → Bool
starts_lf [] = false
starts_lf (c ∷ l) = eqb c (code "\n")

-- The lines of what stands in a file from `at` on: LF ends one, and a CR before it belongs to the line's end. The last needs no end.
unfoldable pub lines : ℕ → List ℕ → List Placed
lines at [] = []
lines at (c ∷ l) =
    cond (eqb c (code "\n")) (record { at = at; bytes = [] } ∷ lines (at + 1) l)
    (push at (cond (eqb c (code "\r") && starts_lf l) [] (c ∷ [])) (lines (at + 1) l))

-- bytes 9 to 13 and 32
unfoldable pub blank : ℕ → Bool
blank c = cond (eqb c (code " ")) true (cond (ltb c 9) false (leb c 13))

-- how many blanks l starts with
unfoldable pub blanks : List ℕ → ℕ
blanks [] = 0
blanks (c ∷ l) = cond (blank c) (suc (blanks l)) 0

-- c before what is left of a list: a blank before nothing goes too
unfoldable pub keep_trimmed : ℕ → List ℕ → List ℕ
keep_trimmed c [] = cond (blank c) [] (c ∷ [])
keep_trimmed c (b ∷ l) = c ∷ b ∷ l

unfoldable pub trim_end : List ℕ → List ℕ
trim_end [] = []
trim_end (c ∷ l) = keep_trimmed c (trim_end l)

-- without the blanks at both ends
unfoldable pub trim : List ℕ → List ℕ
trim l = trim_end (drop (blanks l) l)

-- how many bytes stand before the first b: all, where there is none
unfoldable pub until : ℕ → List ℕ → ℕ
until b [] = 0
until b (c ∷ l) = cond (eqb c b) 0 (suc (until b l))

-- every byte is below 128
unfoldable pub ascii : List ℕ → Bool
ascii [] = true
ascii (c ∷ l) = cond (leb c 127) (ascii l) false

-- l without its blanks stands in it from s up to e
pub record Trimmed (l : List ℕ) (s e : ℕ) : Type 0 where
  pub order : s ≤ e
  pub inside : e ≤ length l
  pub begins : s ≡ blanks l
  pub ends : e ≡ blanks l + length (trim l)
  pub is : take (e - s) (drop s l) ≡ trim l

pub record Blanks (l : List ℕ) (s : ℕ) : Type 0 where
  pub inside : s ≤ length l
  pub is : s ≡ blanks l

pub record TrimsTo (l : List ℕ) (e : ℕ) : Type 0 where
  pub inside : e ≤ length l
  pub is : take e l ≡ trim_end l

pub record Until (b : ℕ) (l : List ℕ) (k : ℕ) : Type 0 where
  pub inside : k ≤ length l
  pub is : k ≡ until b l

-- the first line of l has n bytes, and the next one starts `next` bytes further on
pub record Cut (l : List ℕ) (n next : ℕ) : Type 0 where
  pub size : n ≤ next
  pub more : 0 < next
  pub inside : next ≤ length l
  pub is : (at : ℕ) → lines at l ≡ record { at = at; bytes = take n l } ∷ lines (at + next) (drop next l)

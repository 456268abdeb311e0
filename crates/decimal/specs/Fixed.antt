-- What a float prints as, with a fixed number of places.
use Rattle.std.specs.Prelude.{ℕ, zero, suc, ◌+◌, ◌-◌, ◌*◌, ◌/◌, ◌%◌, ◌^◌, Bool, false, not, ◌&&◌, ◌||◌, cond, List, [], ◌∷◌, leb, ltb, eqb, pos, Float}
use Rattle.std.specs.Float.{fin}
use Rattle.std.specs.Float.Ieee.{lt}
use Rattle.std.specs.Float.Ieee.Positive.{num, den}
use Rattle.std.specs.Float.Ieee.Nearest.{closest}
use Rattle.text.specs.Text.{code}

-- 0 ≤ v < 1000: -0 is within, a NaN is not
unfoldable pub within : Float → Bool
within v = not (lt v (fin false 0 (pos 0))) && lt v (fin false 125 (pos 3))

-- the whole number nearest to v * 10 ^ p, a tie to the even one: v is num v / den v
abbrev pub nearest_units : ℕ → Float → ℕ
nearest_units p v = closest (num v * 10 ^ p) (den v)

-- the digit of n at 10 ^ i, as a byte
abbrev pub digit_at : ℕ → ℕ → ℕ
digit_at n i = n / 10 ^ i % 10 + code "0"

-- What stands i columns from the right end of n / 10 ^ p with p places: a digit after the point, the point, the digit before it, and further left n's other digits, then `pad`.
unfoldable pub cell_at : ℕ → ℕ → ℕ → ℕ → ℕ
cell_at pad p n i =
    cond (ltb i p) (digit_at n i) (cond (eqb i p) (code ".") (cond (eqb (i - 1) p || leb (10 ^ (i - 1)) n) (digit_at n (i - 1)) pad))

-- its w last columns, from the left
unfoldable pub fixed_text : ℕ → ℕ → ℕ → ℕ → List ℕ
fixed_text pad p n zero = []
fixed_text pad p n (suc w) = cell_at pad p n w ∷ fixed_text pad p n w

-- v is within, and w columns from `at` of a slice of n bytes are there, enough for p places, 8 at most
unfoldable pub fits : Float → ℕ → ℕ → ℕ → ℕ → Bool
fits v p w at n = within v && (leb p 8 && (leb (p + 2) w && (leb w 16 && (leb at n && leb w (n - at)))))

-- v prints with p places, 8 at most, in w columns from `at` of a slice of n bytes: no digit is cut off, and the columns are there
unfoldable pub printable : Float → ℕ → ℕ → ℕ → ℕ → Bool
printable v p w at n = fits v p w at n && ltb (nearest_units p v) (10 ^ (w - 1))

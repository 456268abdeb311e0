-- A number written in hexadecimal digits, the most significant first. Definitions only.
use Rattle.std.specs.Prelude.{ℕ, ◌+◌, ◌*◌, ◌%◌, cond, List, [], ◌∷◌, ltb, take, drop}

-- the value of an ASCII digit: the last four bits of `0` to `9`, and of `a` to `f` with 9 added. Any other byte counts as some digit.
unfoldable pub hex_digit : ℕ → ℕ
hex_digit c = cond (ltb c 58) (c % 16) ((c + 9) % 16)

-- the number whose digits follow those of v
unfoldable pub hex_value : ℕ → List ℕ → ℕ
hex_value v [] = v
hex_value v (c ∷ cs) = hex_value (v * 16 + hex_digit c) cs

-- the number whose 16 digits stand at place i
unfoldable pub hex_word_at : List ℕ → ℕ → ℕ
hex_word_at line i = hex_value 0 (take 16 (drop i line))

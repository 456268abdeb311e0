-- What the code's inner functions give.
use Rattle.std.specs.Prelude.{cond, ℕ, ◌+◌, ◌-◌, ◌*◌, eqb}
use Rattle.text.specs.Text.{code}
use Rattle.decimal.specs.Read.{is_digit}
use Rattle.tle.specs.Printed.{Class, only, digit, leading, later, letter, letter_or_blank, sign}

-- The code's tables have a character for each column: these are the classes that they stand for. Any other stands for itself alone.
abbrev pub column_class : ℕ → Class
column_class c =
    cond (eqb c (code "d")) digit
    (cond (eqb c (code "L")) leading
    (cond (eqb c (code "l")) later
    (cond (eqb c (code "A")) letter
    (cond (eqb c (code "a")) letter_or_blank
    (cond (eqb c (code "s")) sign (only c))))))

-- n with the byte c after it, where it is a digit
abbrev pub with_byte : ℕ → ℕ → ℕ
with_byte n c = cond (is_digit c) (n * 10 + (c - code "0")) n

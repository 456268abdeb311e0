-- Text as definitions write it and as code has it: a byte for each character. The text of the papers is ASCII, where a character's number
-- is its byte.
use Rattle.std.specs.Prelude.{ℕ, ◌≡◌, refl, List, [], ◌∷◌}
use Prim.Native.Char.{Char, code as number}
use Prim.Native.String.{String, [] as empty, ◌∷◌ as ◌before◌}

-- the byte of a character: code "T" is 84
abbrev pub code : Char → ℕ
code c = number c

-- the bytes of a text, first character first
abbrev pub bytes : String → List ℕ
bytes empty = []
bytes (c before s) = code c ∷ bytes s

pub example : bytes "A 1-" ≡ 65 ∷ 32 ∷ 49 ∷ 45 ∷ []
example = refl

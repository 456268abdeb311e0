-- The numbers that Rust takes, by the grammar that its documentation prints at `impl FromStr for f64`, for a text in lower case:
--     Float  ::= Sign? ( 'inf' | 'infinity' | 'nan' | Number )
--     Number ::= ( Digit+ | Digit+ '.' Digit* | Digit* '.' Digit+ ) Exp?
--     Exp    ::= 'e' Sign? Digit+
--     Sign   ::= [+-]
--     Digit  ::= [0-9]
-- A type for each line, a constructor for each alternative. proofs/Grammar.antt shows that `number` takes these texts and no others.
use Rattle.std.specs.Prelude.{ℕ, ◌+◌, ◌-◌, ◌*◌, ◌^◌, ◌<◌, ◌≡◌, Bool, true, false, cond, List, [], ◌∷◌, ◌++◌, ltb, length, Ok, Err}
use Rattle.std.specs.Float.{nan, inf, binary64}
use Rattle.std.specs.Float.Ieee.{round}
use Rattle.text.specs.Text.{bytes, code}
use Rattle.decimal.specs.Read.{Number, is_digit, lower, spells}
use Rattle.decimal.specs.declared.read.NumberError.TheVariants.{TooLong}

-- Digit*
pub data Digits : List ℕ → Type 0 where
  no_digit : Digits []
  digit : {c : ℕ} {l : List ℕ} → is_digit c ≡ true → Digits l → Digits (c ∷ l)

-- Sign?, and whether it is a minus
pub data Sign : List ℕ → Bool → Type 0 where
  no_sign : Sign [] false
  plus : Sign (bytes "+") false
  minus : Sign (bytes "-") true

-- Digit+ | Digit+ '.' Digit* | Digit* '.' Digit+, the digits alone, and how many of them stand behind the point
pub data Mantissa : List ℕ → List ℕ → ℕ → Type 0 where
  whole : (ws : List ℕ) → Digits ws → 0 < length ws → Mantissa ws ws 0
  point_last : (ws ps : List ℕ) → Digits ws → 0 < length ws → Digits ps → Mantissa (ws ++ code "." ∷ ps) (ws ++ ps) (length ps)
  point_first : (ws ps : List ℕ) → Digits ws → Digits ps → 0 < length ps → Mantissa (ws ++ code "." ∷ ps) (ws ++ ps) (length ps)

-- Exp?, whether it has a minus, and its digits
pub data Exp : List ℕ → Bool → List ℕ → Type 0 where
  no_exp : Exp [] false []
  exp : (e : ℕ) (s : List ℕ) (n : Bool) (ds : List ℕ) → lower e ≡ code "e" → Sign s n → Digits ds → 0 < length ds → Exp (e ∷ (s ++ ds)) n ds

-- the number that digits write, behind a
unfoldable pub numeral_value : ℕ → List ℕ → ℕ
numeral_value a [] = a
numeral_value a (c ∷ l) = numeral_value (a * 10 + (c - code "0")) l

-- What a number comes to: refused by document 01's limits (over 19 digits, an exponent of over two digits or beyond 30), else the nearest float.
unfoldable pub limited : Bool → List ℕ → ℕ → Bool → List ℕ → Number
limited n ds p en es =
    let d = numeral_value 0 ds in
    let e = numeral_value 0 es in
    cond (ltb 19 (length ds)) (Err TooLong)
    (cond (ltb 2 (length es)) (Err TooLong)
    (cond (ltb 30 e) (Err TooLong) (Ok (round binary64 n (d * 10 ^ cond en 0 e) (10 ^ (p + cond en e 0))))))

-- 'inf' | 'infinity' | 'nan' | Number, behind a sign
pub data Body (n : Bool) : List ℕ → Number → Type 0 where
  is_inf : (w : List ℕ) → spells w (bytes "inf") ≡ true → Body n w (Ok (inf n))
  is_infinity : (w : List ℕ) → spells w (bytes "infinity") ≡ true → Body n w (Ok (inf n))
  is_nan_lem : (w : List ℕ) → spells w (bytes "nan") ≡ true → Body n w (Ok nan)
  is_number : {m : List ℕ} {ds : List ℕ} {p : ℕ} {x : List ℕ} {en : Bool} {es : List ℕ} → Mantissa m ds p → Exp x en es → Body n (m ++ x) (limited n ds p en es)

-- Float, and what it comes to
pub data Written : List ℕ → Number → Type 0 where
  written : {s t : List ℕ} {n : Bool} {v : Number} → Sign s n → Body n t v → Written (s ++ t) v

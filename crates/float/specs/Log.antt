-- Document 01's natural logarithm.
use Rattle.std.specs.Float.{nan, inf, fin, binary64}
use Rattle.std.specs.Float.Ieee.{lt, round, of_bits, of_int, size}
use Rattle.std.specs.Prelude.{◌≡◌, ℕ, zero, suc, ◌+◌, ◌-◌, ◌*◌, ◌^◌, true, false, cond, List, [], ◌∷◌, ℤ, pos, ◌+ℤ◌, Float, refl}
use Rattle.float.specs.Constant.{decimal, fraction}
use Rattle.float.specs.Ops.{◌⊕◌, ◌⊖◌, ◌⊗◌, ◌⊘◌, bits, one, two, half}
use Rattle.float.specs.Trig.{horner}

unfoldable pub ln2 : Float
ln2 = decimal 6931471805599453 16

pub ln2_bits : bits 0x3fe62e42fefa39ef ≡ ln2
unfolding ln2 of_bits round
ln2_bits = refl

unfoldable pub root2 : Float
root2 = decimal 14142135623730951 16

pub root2_bits : bits 0x3ff6a09e667f3bcd ≡ root2
unfolding root2 of_bits round
root2_bits = refl

-- the f64 nearest 1/(2k+1)
unfoldable pub log_term : ℕ → Float
log_term k = fraction false 1 (2 * k + 1)

abbrev pub eleven : (ℕ → Float) → List Float
eleven c = c 0 ∷ c 1 ∷ c 2 ∷ c 3 ∷ c 4 ∷ c 5 ∷ c 6 ∷ c 7 ∷ c 8 ∷ c 9 ∷ c 10 ∷ []

pub logTerm-bits :
    (bits 0x3ff0000000000000 ∷ bits 0x3fd5555555555555 ∷ bits 0x3fc999999999999a ∷ bits 0x3fc2492492492492
    ∷ bits 0x3fbc71c71c71c71c ∷ bits 0x3fb745d1745d1746 ∷ bits 0x3fb3b13b13b13b14 ∷ bits 0x3fb1111111111111
    ∷ bits 0x3fae1e1e1e1e1e1e ∷ bits 0x3faaf286bca1af28 ∷ bits 0x3fa8618618618618 ∷ []) ≡ eleven log_term
unfolding log_term of_bits round
logTerm-bits = refl

-- H
unfoldable pub log_poly : Float → Float
log_poly t = horner t (eleven log_term)

-- e×0.6931471805599453 + (2×s)×H, s = (m−1)/(m+1)
unfoldable pub series_of : Float → Float → Float
series_of m e =
    let s = (m ⊖ one) ⊘ (m ⊕ one) in
    e ⊗ ln2 ⊕ two ⊗ s ⊗ log_poly (s ⊗ s)

-- of m×2^e, 1 ≤ m < 2: an m above 1.4142135623730951 is halved, and e raised by one
unfoldable pub log_of : Float → Float → Float
log_of m e = cond (lt root2 m) (series_of (m ⊗ half) (e ⊕ one)) (series_of m e)

-- a number n×2^d above zero is m×2^e with 1 ≤ m < 2: where n has k + 1 binary digits, m is n/2^k and e is d + k
unfoldable pub shift : ℕ → ℕ
shift n = size n - 1

unfoldable pub significand_of : ℕ → Float
significand_of n = fraction false n (2 ^ shift n)

unfoldable pub exponent_of : ℕ → ℤ → Float
exponent_of n d = of_int binary64 (d +ℤ pos (shift n))

-- NaN for NaN and below zero, −infinity for zeros, +infinity for itself; a subnormal number has its own exponent e
unfoldable pub ln_of : Float → Float
ln_of nan = nan
ln_of (inf s) = cond s nan (inf false)
ln_of (fin s zero d) = inf true
ln_of (fin true (suc n) d) = nan
ln_of (fin false (suc n) d) = log_of (significand_of (suc n)) (exponent_of (suc n) d)

-- Digits of whole numbers in a base p, behind the point and before it.
use Rattle.std.specs.Prelude.{◌≡◌, ℕ, zero, suc, ◌+◌, ◌-◌, ◌*◌, ◌/◌, ◌%◌, ◌≤◌, Bool, true, false, cond, ◌&&◌, List, [], ◌∷◌, ◌++◌, ◌==◌, nat_le, slice_index_or, refl, Float}
use Rattle.std.specs.Float.{nan}
use Rattle.std.specs.Float.Ieee.{to_unsigned, lt, of_bits, round}
use Rattle.float.specs.Constant.{decimal}
use Rattle.float.specs.Ops.{◌⊕◌, ◌⊖◌, ◌⊗◌, ◌⊘◌, bits, one, min_of, abs_of, floor_of, raised, of_nat}

-- a base that is not refused, as a test and as a fact
abbrev pub is_base : ℕ → Bool
is_base p = nat_le 2 p && nat_le p 7

pub record Base (p : ℕ) : Type 0 where
  pub least : 2 ≤ p
  pub greatest : p ≤ 7

-- ---- the Monna map (A. F. Monna, 1952): the digits of a whole number, lowest first, written behind the point

-- the digits of v in base p, lowest first; at most k of them, and v is bound enough (`digits_value` of proofs/Digits.antt)
unfoldable pub digits : ℕ → ℕ → ℕ → List ℕ
digits p zero v = []
digits p (suc k) zero = []
digits p (suc k) (suc v) = suc v % p ∷ digits p k (suc v / p)

-- res + d₀×base + d₁×(base/p) + .., each digit in turn
unfoldable pub placed : ℕ → List ℕ → Float → Float → Float
placed p [] base res = res
placed p (d ∷ ds) base res = placed p ds (base ⊘ of_nat p) (res ⊕ of_nat d ⊗ base)

unfoldable pub monna_of : ℕ → ℕ → Float
monna_of v p = placed p (digits p v v) (one ⊘ of_nat p) (bits 0)

-- ---- its inverse: n digits of x behind the point, the first of them lowest

unfoldable pub margin : Float
margin = decimal 1 15

pub margin_bits : bits 0x3cd203af9ee75616 ≡ margin
unfolding margin of_bits round
margin_bits = refl

-- x held to 0.0 up to 1.0 − 1e-15; NaN stays
unfoldable pub clamp_of : Float → Float
clamp_of x = cond (lt x (bits 0)) (bits 0) (cond (lt (one ⊖ margin) x) (one ⊖ margin) x)

-- a digit: floor(x×p), cast to u64, which takes NaN to 0
abbrev pub digit_of : ℕ → Float → ℕ
digit_of p x = to_unsigned 64 (floor_of (x ⊗ of_nat p))

-- n more digits of x, modulo p and worth factor, factor×p, .., added to val
unfoldable pub digits_added : ℕ → ℕ → Float → ℕ → ℕ → ℕ
digits_added zero p x factor val = val
digits_added (suc n) p x factor val = digits_added n p (x ⊗ of_nat p ⊖ of_nat (digit_of p x)) (factor * p) (val + digit_of p x % p * factor)

unfoldable pub inverse_of : Float → ℕ → ℕ → ℕ
inverse_of x p n = digits_added n p (clamp_of x) 1 0

-- ---- the p-adic distance p^−v, v being how often p divides the difference

-- how often p divides d, which is not 0, at most k times; whole says whether it does once. d is bound enough (`valuation_divides` of proofs/Digits.antt).
unfoldable pub times : ℕ → Bool → ℕ → ℕ → ℕ
times zero whole p d = 0
times (suc k) false p d = 0
times (suc k) true p d = suc (times k (d / p % p == 0) p (d / p))

unfoldable pub valuation : ℕ → ℕ → ℕ
valuation p d = times d (d % p == 0) p d

-- |a − b|
abbrev pub gap : ℕ → ℕ → ℕ
gap a b = a - b + (b - a)

unfoldable pub distance_of : ℕ → ℕ → ℕ → Float
distance_of a b p = cond (a == b) (bits 0) (one ⊘ raised (of_nat p) (valuation p (gap a b)) one)

-- ---- a coordinate's place in [0, 1], and those of three coordinates by four bases

unfoldable pub range : Float
range = decimal 20000000 0

pub range_bits : bits 0x417312d000000000 ≡ range
unfolding range of_bits round
range_bits = refl

unfoldable pub highest : Float
highest = decimal 99999 5

pub highest_bits : bits 0x3fefffeb074a771d ≡ highest
unfolding highest of_bits round
highest_bits = refl

unfoldable pub normalized_at : Float → ℕ → Float
normalized_at x p = monna_of (inverse_of (min_of (abs_of x ⊘ range) highest) p 16) p

abbrev pub coordinate : List Float → ℕ → Float
coordinate c j = slice_index_or c j nan

abbrev pub row : List Float → ℕ → List Float
row c p = normalized_at (coordinate c 0) p ∷ normalized_at (coordinate c 1) p ∷ normalized_at (coordinate c 2) p ∷ []

unfoldable pub normalized_of : List Float → List Float
normalized_of c = coordinate c 0 ∷ coordinate c 1 ∷ coordinate c 2 ∷ row c 2 ++ row c 3 ++ row c 5 ++ row c 7

-- Document 01's sine and cosine: NaN unless finite.
use Rattle.std.specs.Float.Ieee as Ieee
use Rattle.std.specs.Float.{nan, inf, fin}
use Rattle.std.specs.Float.Ieee.{neg, lt, of_bits}
use Rattle.std.specs.Prelude.{◌≡◌, ℕ, zero, suc, ◌+◌, ◌-◌, ◌*◌, ◌%◌, Bool, true, false, cond, List, [], ◌∷◌, ◌==◌, Float, refl}
use Rattle.float.specs.Constant.{decimal, fraction}
use Rattle.float.specs.Ops.{◌⊕◌, ◌⊖◌, ◌⊗◌, ◌⊘◌, ◌⊛◌, bits, one, whole_of, round_of}

-- π
unfoldable pub pi : Float
pi = decimal 3141592653589793 15

pub pi_bits : bits 0x400921fb54442d18 ≡ pi
unfolding pi of_bits Ieee.round
pi_bits = refl

-- 2π
unfoldable pub full : Float
full = decimal 6283185307179586 15

pub full_bits : bits 0x401921fb54442d18 ≡ full
unfolding full of_bits Ieee.round
full_bits = refl

unfoldable pub quarter : Float
quarter = decimal 15707963267948966 16

pub quarter_bits : bits 0x3ff921fb54442d18 ≡ quarter
unfolding quarter of_bits Ieee.round
quarter_bits = refl

-- c0 + w×(c1 + w×(.. + w×c))
abbrev pub horner : Float → List Float → Float
horner w [] = bits 0
horner w (c ∷ []) = c
horner w (c ∷ d ∷ cs) = c ⊕ w ⊗ horner w (d ∷ cs)

unfoldable pub factorial : ℕ → ℕ
factorial zero = 1
factorial (suc k) = suc k * factorial k

-- s_k and c_k: the f64 nearest (−1)^k/(2k+1)! and (−1)^k/(2k)!
unfoldable pub sine_term : ℕ → Float
unfolding factorial
sine_term k = fraction (k % 2 == 1) 1 (factorial (2 * k + 1))

unfoldable pub cosine_term : ℕ → Float
unfolding factorial
cosine_term k = fraction (k % 2 == 1) 1 (factorial (2 * k))

-- the nine of each
abbrev pub nine : (ℕ → Float) → List Float
nine c = c 0 ∷ c 1 ∷ c 2 ∷ c 3 ∷ c 4 ∷ c 5 ∷ c 6 ∷ c 7 ∷ c 8 ∷ []

pub sineTerm-bits :
    (bits 0x3ff0000000000000 ∷ neg (bits 0x3fc5555555555555) ∷ bits 0x3f81111111111111
    ∷ neg (bits 0x3f2a01a01a01a01a) ∷ bits 0x3ec71de3a556c734 ∷ neg (bits 0x3e5ae64567f544e4)
    ∷ bits 0x3de6124613a86d09 ∷ neg (bits 0x3d6ae7f3e733b81f) ∷ bits 0x3ce952c77030ad4a ∷ []) ≡ nine sine_term
unfolding sine_term neg of_bits Ieee.round
sineTerm-bits = refl

pub cosineTerm-bits :
    (bits 0x3ff0000000000000 ∷ neg (bits 0x3fe0000000000000) ∷ bits 0x3fa5555555555555
    ∷ neg (bits 0x3f56c16c16c16c17) ∷ bits 0x3efa01a01a01a01a ∷ neg (bits 0x3e927e4fb7789f5c)
    ∷ bits 0x3e21eed8eff8d898 ∷ neg (bits 0x3da93974a8c07c9d) ∷ bits 0x3d2ae7f3e733b81f ∷ []) ≡ nine cosine_term
unfolding cosine_term neg of_bits Ieee.round
cosineTerm-bits = refl

-- S and C
unfoldable pub sin_poly : Float → Float
sin_poly r = r ⊗ horner (r ⊗ r) (nine sine_term)

unfoldable pub cos_poly : Float → Float
cos_poly r = horner (r ⊗ r) (nine cosine_term)

-- q is z/1.57.. rounded, z = v % 6.28..: what is rounded, and q modulo 4 (Euclid's, so that −1 gives 3)
unfoldable pub quarters_of : Float → Float
quarters_of v = v ⊛ full ⊘ quarter

unfoldable pub quadrant_of : Float → ℕ
quadrant_of nan = 0
quadrant_of (inf s) = 0
quadrant_of (fin false m e) = whole_of (fin false m e) % 4
quadrant_of (fin true m e) = (4 - whole_of (fin true m e) % 4) % 4

-- r = z − q×1.57..
unfoldable pub rest_of : Float → Float
rest_of v = v ⊛ full ⊖ round_of (quarters_of v) ⊗ quarter

-- held to [−1, 1]
unfoldable pub held_of : Float → Float
held_of x = cond (lt x (neg one)) (neg one) (cond (lt one x) one x)

-- the q-th of four
abbrev pub pick : ℕ → Float → Float → Float → Float → Float
pick zero a b c d = a
pick (suc zero) a b c d = b
pick (suc (suc zero)) a b c d = c
pick (suc (suc (suc k))) a b c d = d

abbrev pub is_finite : Float → Bool
is_finite nan = false
is_finite (inf s) = false
is_finite (fin s m e) = true

-- sine by the quadrant, from S and C; cosine is alike a quarter further
unfoldable pub sin_at : ℕ → Float → Float → Float
sin_at q s c = held_of (pick q s c (neg s) (neg c))

unfoldable pub cos_at : ℕ → Float → Float → Float
cos_at q s c = held_of (pick q c (neg s) (neg c) s)

unfoldable pub sin_of : Float → Float
sin_of v = cond (is_finite v) (sin_at (quadrant_of (quarters_of v)) (sin_poly (rest_of v)) (cos_poly (rest_of v))) nan

unfoldable pub cos_of : Float → Float
cos_of v = cond (is_finite v) (cos_at (quadrant_of (quarters_of v)) (sin_poly (rest_of v)) (cos_poly (rest_of v))) nan

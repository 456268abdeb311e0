-- What a saturating cast gives. Assumes nothing.
use Rattle.std.proofs.Common.{◌≡◌, ℕ, ◌+◌, ◌-◌, ◌*◌, ◌/◌, ◌^◌, ◌<◌, min, true, false, pos, neg_ℤ, sym, refl, ap, true≢false, div-lt_iff_lt-mul, arith, ltb-false, ltb-true}
use native.Mathlib.Nat.{zero-div}
use lib.Ieee.{Float, nan, inf, fin, up, down, lt, neg, of_bits, to_unsigned, to_signed}
use lib.Ieee.Fits.{down_pos}
use lib.Ieee.Nearest.{div_same}
use lib.Ieee.Exact.{HasValue}
use Rattle.float.specs.Ops.{bits}

-- a signed cast by the size of x
pub signed_below : (x : Float) → lt x (bits 0) ≡ true → to_signed 63 x ≡ neg_ℤ (pos (min (to_unsigned 64 (neg x)) (2 ^ 63)))
unfolding lt neg of_bits to_signed to_unsigned
signed_below nan p = absurd (true≢false (sym p))
signed_below (inf true) p = refl
signed_below (inf false) p = absurd (true≢false (sym p))
signed_below (fin true m e) p =
    let g : min (m * up e / down e) (2 ^ 63) ≡ min (min (m * up e / down e) (2 ^ 64 - 1)) (2 ^ 63) = omega arith in
    ap (λ (n : ℕ). neg_ℤ (pos n)) g
signed_below (fin false m e) p = absurd (no (m * up e) (down e) (ltb-true (m * up e * 1) (0 * down e) p))
  where
    no : (x d : ℕ) → x * 1 < 0 * d → ⊥
    no x d h = omega arith

pub signed_above : (x : Float) → lt x (bits 0) ≡ false → to_signed 63 x ≡ pos (min (to_unsigned 64 x) (2 ^ 63 - 1))
unfolding lt neg of_bits to_signed to_unsigned
signed_above nan p = refl
signed_above (inf true) p = absurd (true≢false p)
signed_above (inf false) p = refl
signed_above (fin true m e) p =
    let z : m * up e ≡ 0 = omega (arith, ltb-false 0 (m * up e * 1 + 0 * down e) p) in
    let g : min (m * up e / down e) (2 ^ 63) ≡ 0 = rw z (rw zero-div refl) in
    ap (λ (n : ℕ). neg_ℤ (pos n)) g
signed_above (fin false m e) p =
    let g : min (m * up e / down e) (2 ^ 63 - 1) ≡ min (min (m * up e / down e) (2 ^ 64 - 1)) (2 ^ 63 - 1) = omega arith in
    ap pos g

-- a cast of a value in range cuts it
pub cut_value : (x : Float) (a c : ℕ) → 0 < c → a < 2 ^ 64 * c → HasValue x false a c → to_unsigned 64 x ≡ a / c
unfolding to_unsigned
cut_value nan a c C h v = absurd v
cut_value (inf s) a c C h v = absurd v
cut_value (fin true m e) a c C h v = absurd (true≢false v.0)
cut_value (fin false m e) a c C h v =
    let d : a / c < 2 ^ 64 = (div-lt_iff_lt-mul C).1 h in
    let q : m * up e / down e ≡ a / c = div_same (m * up e) (down e) a c (down_pos e) C v.1 in
    rw q (omega arith)

-- How large a float is, whatever its sign: laws of products, sums and quotients, and for powers of two as bounds. Assumes nothing.
use mathlib.Core.Path.{◌≡◌, refl, sym, ◌∙◌, subst}
use mathlib.Core.Bool.{Bool, true, false, beq, cond, ◌&&◌}
use Prim.Native.Nat.{ℕ, suc, ◌+◌, ◌-◌, ◌*◌, ◌^◌, ◌≤◌, ◌<◌}
use native.Mathlib.Nat.{le_trans, mul-one, one-mul, mul-le-mul_right, mul-pos, pow-suc}
use native.Mathlib.Omega.{arith}
use lib.Dec.{ltb, lit<}
use lib.Pow.{pow-add, pow-lt, pow_mono}
use lib.Ieee.{Float, nan, inf, fin, binary64, up, down, unlike, neg, add, sum, sub, round}
use lib.Ieee.Exact.{round_exact}
use lib.Ieee.Fits.{down_pos}
use Rattle.float.specs.Ops.{◌⊕◌, ◌⊖◌, ◌⊗◌, ◌⊘◌}
use Rattle.float.proofs.Rounding.{Size, wider, Stays, round_stays}
use Rattle.bounds.proofs.Bounds.{mul_within, plus, Least, div_within}

pub size_up : (b d c e : ℕ) (x : Float) → 0 < d → b * e ≤ c * d → Size b d x → Size c e x
size_up b d c e x D h w = (w.0, wider w.0 b d c e x D h w.1)

pub neg_size : (b d : ℕ) (x : Float) → Size b d x → Size b d (neg x)
unfolding neg
neg_size b d nan w = absurd w.1
neg_size b d (inf s) w = absurd w.1
neg_size b d (fin s m e) w = (_, (refl, w.1.1))

pub mul_size : (b d c e : ℕ) (x y : Float) → 0 < d → 0 < e → Size b d x → Size c e y → Stays (b * c) (d * e) → Size (b * c) (d * e) (x ⊗ y)
mul_size b d c e x y D E v w st = (unlike v.0 w.0, mul_within v.0 w.0 b d c e x y D E v.1 w.1 st)

pub div_size : (b d a c B D : ℕ) (x y : Float) → 0 < d → 0 < a → 0 < D → Size b d x → Least a c y → b * c * D ≤ B * (d * a) → Stays B D → Size B D (x ⊘ y)
div_size b d a c B D x y d0 a0 D0 v w h st = (v.0, div_within v.0 b d a c B D x y d0 a0 D0 v.1 w h st)

-- ---- sums and differences: the sizes add
left_less : (a b d B : ℕ) → (a + b) * d ≤ B → (a - b) * d ≤ B
left_less a b d B h = le_trans (mul-le-mul_right d (less a b)) h
  where
    less : (a b : ℕ) → a - b ≤ a + b
    less a b = omega arith

right_less : (a b d B : ℕ) → (a + b) * d ≤ B → (b - a) * d ≤ B
right_less a b d B h = le_trans (mul-le-mul_right d (less a b)) h
  where
    less : (a b : ℕ) → b - a ≤ a + b
    less a b = omega arith

sum_size : (s t : Bool) (a b c B d : ℕ) → 0 < c → 0 < d → (a + b) * d ≤ B * c → Stays B d → Size B d (sum binary64 s a t b c)
unfolding sum
sum_size s t a b c B d C D h st = go (beq s t) (ltb a b)
  where
    go : (x y : Bool) → Size B d (cond x (round binary64 s (a + b) c) (cond y (round binary64 t (b - a) c) (round binary64 (s && ltb b a) (a - b) c)))
    go true y = (s, round_stays s (a + b) c B d C D h st)
    go false true = (t, round_stays t (b - a) c B d C D (right_less a b d (B * c) h) st)
    go false false = (s && ltb b a, round_stays (s && ltb b a) (a - b) c B d C D (left_less a b d (B * c) h) st)

pub add_size : (b c d : ℕ) (x y : Float) → 0 < d → Size b d x → Size c d y → Stays (b + c) d → Size (b + c) d (x ⊕ y)
unfolding add
add_size b c d nan y D v w st = absurd v.1
add_size b c d (inf s) y D v w st = absurd v.1
add_size b c d (fin s m k) nan D v w st = absurd w.1
add_size b c d (fin s m k) (inf t) D v w st = absurd w.1
add_size b c d (fin s m k) (fin t n l) D v w st =
    sum_size s t (m * up k * down l) (n * up l * down k) (down k * down l) (b + c) d (mul-pos (down_pos k) (down_pos l)) D
    (plus (m * up k) (n * up l) (down k) (down l) b c d v.1.1 w.1.1) st

-- ---- at most 2 ^ j in size
pub stays_power : (j : ℕ) → j < 1024 → Stays (2 ^ j) 1
stays_power j h =
    round_exact binary64 false (2 ^ j) 1 1 (j + 1074) (lit< tt) (lit< tt)
    (subst (λ (x : ℕ). x < 2 ^ 2098) (sym (one-mul (2 ^ (j + 1074)))) (pow-lt (room j h)))
    (sym (pow-add 2 j 1074) ∙ sym (one-mul (2 ^ (j + 1074))) ∙ sym (mul-one (1 * 2 ^ (j + 1074))))
  where
    room : (j : ℕ) → j < 1024 → j + 1074 < 2098
    room j h = omega arith

abbrev pub Below : ℕ → Float → Type 0
Below j x = Size (2 ^ j) 1 x

pub below_up : (i j : ℕ) (x : Float) → i ≤ j → Below i x → Below j x
below_up i j x h w = size_up (2 ^ i) 1 (2 ^ j) 1 x (lit< tt) (mul-le-mul_right 1 (pow_mono h)) w

pub mul_below : (i j : ℕ) (x y : Float) → i + j < 1024 → Below i x → Below j y → Below (i + j) (x ⊗ y)
mul_below i j x y h v w =
    let p : 2 ^ (i + j) ≡ 2 ^ i * 2 ^ j = pow-add 2 i j in
    subst (λ (z : ℕ). Size z 1 (x ⊗ y)) (sym p) (mul_size (2 ^ i) 1 (2 ^ j) 1 x y (lit< tt) (lit< tt) v w (subst (λ (z : ℕ). Stays z 1) p (stays_power (i + j) h)))

twice : (j : ℕ) → 2 ^ suc j ≡ 2 ^ j + 2 ^ j
twice j = omega (arith, pow-suc 2 j)

pub add_below : (j : ℕ) (x y : Float) → suc j < 1024 → Below j x → Below j y → Below (suc j) (x ⊕ y)
add_below j x y h v w = subst (λ (z : ℕ). Size z 1 (x ⊕ y)) (sym (twice j)) (add_size (2 ^ j) (2 ^ j) 1 x y (lit< tt) v w (subst (λ (z : ℕ). Stays z 1) (twice j) (stays_power (suc j) h)))

pub sub_below : (j : ℕ) (x y : Float) → suc j < 1024 → Below j x → Below j y → Below (suc j) (x ⊖ y)
unfolding sub
sub_below j x y h v w = add_below j x (neg y) h v (neg_size (2 ^ j) 1 y w)

-- Bounds that survive rounding: what a whole number, a sum, a product and a quotient of bounded numbers are at most, and what a product and a difference
-- are at least. A bound goes through where it is itself a float, which a numeral's computing shows. Assumes nothing.
use mathlib.Core.Path.{◌≡◌, refl, sym, ap, ◌∙◌, subst}
use mathlib.Core.Bool.{Bool, true, false, true≢false, not}
use Prim.Native.Nat.{ℕ, ◌+◌, ◌-◌, ◌*◌, ◌≤◌, ◌<◌}
use native.Mathlib.Nat.{le_trans, le_of_eq, le_refl, lt_of_lt_of_le, mul_assoc, mul_comm, mul_right_comm, mul-mul-mul_comm, mul-le-mul, mul-le-mul_right, mul-pos, add-le-add, add-mul, mul-sub, le_of_mul-le-mul_right}
use native.Mathlib.Omega.{arith}
use lib.IntN.{ℤ, pos}
use lib.Dec.{T, lt→ltb, lit<}
use lib.Ieee.{Float, nan, inf, fin, binary64, up, down, unlike, neg, le, add, sum, sub, mul, div, round, of_int}
use lib.Ieee.Exact.{HasValue}
use lib.Ieee.Fits.{down_pos}
use lib.Ieee.Order.{round_mono}
use lib.Ieee.Positive.{above, above_of_le, le→cross, first_pos, through}
use borrow.Author.Tests.{ne_eqb, le-ltb}
use Rattle.float.specs.Ops.{◌⊕◌, ◌⊖◌, ◌⊗◌, ◌⊘◌}
use Rattle.float.proofs.Rounding.{Within, Size, Stays, round_stays}

-- ---- at most b / d
pub nat_up : (n m : ℕ) → n ≤ m → Stays m 1 → Within false m 1 (of_int binary64 (pos n))
unfolding of_int
nat_up n m h st = round_stays false n 1 m 1 (lit< tt) (lit< tt) (mul-le-mul_right 1 h) st

pub mul_within : (s t : Bool) (b d c e : ℕ) (x y : Float) → 0 < d → 0 < e → Within s b d x → Within t c e y → Stays (b * c) (d * e) → Within (unlike s t) (b * c) (d * e) (x ⊗ y)
unfolding mul
mul_within s t b d c e nan y D E v w st = absurd v
mul_within s t b d c e (inf r) y D E v w st = absurd v
mul_within s t b d c e (fin r m k) nan D E v w st = absurd w
mul_within s t b d c e (fin r m k) (inf q) D E v w st = absurd w
mul_within s t b d c e (fin r m k) (fin q n l) D E v w st =
    subst (λ (z : Bool). Within (unlike z t) (b * c) (d * e) (fin r m k ⊗ fin q n l)) v.0
    (subst (λ (z : Bool). Within (unlike r z) (b * c) (d * e) (fin r m k ⊗ fin q n l)) w.0
    (round_stays (unlike r q) (m * up k * (n * up l)) (down k * down l) (b * c) (d * e) (mul-pos (down_pos k) (down_pos l)) (mul-pos D E)
    (le_trans (le_of_eq (mul-mul-mul_comm (m * up k) (n * up l) d e))
    (le_trans (mul-le-mul v.1 w.1) (le_of_eq (mul-mul-mul_comm b (down k) c (down l)))))
    st))

pub plus : (a b p q M N d : ℕ) → a * d ≤ M * p → b * d ≤ N * q → (a * q + b * p) * d ≤ (M + N) * (p * q)
plus a b p q M N d h k =
    let x : a * q * d ≤ M * (p * q) = le_trans (le_of_eq (mul_right_comm a q d)) (le_trans (mul-le-mul_right q h) (le_of_eq (mul_assoc M p q))) in
    let y : b * p * d ≤ N * (p * q) = le_trans (le_of_eq (mul_right_comm b p d)) (le_trans (mul-le-mul_right p k) (le_of_eq (mul_assoc N q p ∙ ap (λ (z : ℕ). N * z) (mul_comm q p)))) in
    le_trans (le_of_eq (add-mul (a * q) (b * p) d)) (le_trans (add-le-add x y) (le_of_eq (sym (add-mul M N (p * q)))))

same_sign : (s : Bool) (a b c : ℕ) → sum binary64 s a s b c ≡ round binary64 s (a + b) c
unfolding sum
same_sign true a b c = refl
same_sign false a b c = refl

pub add_within : (s : Bool) (b c d : ℕ) (x y : Float) → 0 < d → Within s b d x → Within s c d y → Stays (b + c) d → Within s (b + c) d (x ⊕ y)
unfolding add
add_within s b c d nan y D v w st = absurd v
add_within s b c d (inf r) y D v w st = absurd v
add_within s b c d (fin r m k) nan D v w st = absurd w
add_within s b c d (fin r m k) (inf q) D v w st = absurd w
add_within s b c d (fin r m k) (fin q n l) D v w st =
    rw (v.0, w.0, same_sign s (m * up k * down l) (n * up l * down k) (down k * down l))
    (round_stays s (m * up k * down l + n * up l * down k) (down k * down l) (b + c) d (mul-pos (down_pos k) (down_pos l)) D
    (plus (m * up k) (n * up l) (down k) (down l) b c d v.1 w.1) st)

-- ---- at least a / c, above zero, an infinity included
abbrev pub Least : ℕ → ℕ → Float → Type 0
Least a c nan = ⊥
Least a c (inf true) = ⊥
Least a c (inf false) = Unit
Least a c (fin true m e) = ⊥
Least a c (fin false m e) = a * down e ≤ m * up e * c

least_down : (a c b d : ℕ) (x : Float) → 0 < c → b * c ≤ a * d → Least a c x → Least b d x
least_down a c b d nan C h l = l
least_down a c b d (inf true) C h l = l
least_down a c b d (inf false) C h l = l
least_down a c b d (fin true m e) C h l = l
least_down a c b d (fin false m e) C h l = through b a (m * up e) d c (down e) C h l

significand : (a c m : ℕ) (e : ℤ) → 0 < a → a * down e ≤ m * up e * c → 0 < m
significand a c m e A h = first_pos m (up e) (first_pos (m * up e) c (lt_of_lt_of_le (mul-pos A (down_pos e)) h))

not_zero : (a c m : ℕ) (e : ℤ) → 0 < a → a * down e ≤ m * up e * c → m ≡ 0 → ⊥
not_zero a c m e A h z = let p = significand a c m e A h in omega (arith, p, z)

-- not below n × 2 ^ k
at_least : (n : ℕ) (k : ℤ) (x : Float) → 0 < n → T (le (fin false n k) x) → Least (n * up k) (down k) x
at_least n k x N t = go x (above_of_le (fin false n k) x (lt→ltb 0 n N) t) t
  where
    go : (x : Float) → T (above x) → T (le (fin false n k) x) → Least (n * up k) (down k) x
    go nan a t = absurd a
    go (inf true) a t = absurd a
    go (inf false) a t = tt
    go (fin true m e) a t = absurd a
    go (fin false m e) a t = le→cross (fin false n k) (fin false m e) (lt→ltb 0 n N) a t

pub round_least : (a c b d : ℕ) → 0 < c → 0 < d → 0 < b → b * c ≤ a * d → Stays b d → Least b d (round binary64 false a c)
round_least a c b d C D B h = go (round binary64 false b d) (round_mono binary64 b d a c D C h)
  where
    go : (y : Float) → T (le y (round binary64 false a c)) → HasValue y false b d → Least b d (round binary64 false a c)
    go nan t v = absurd v
    go (inf s) t v = absurd v
    go (fin true n k) t v = absurd (true≢false v.0)
    go (fin false n k) t v =
        let N : 0 < n = significand b d n k B (le_of_eq (sym v.1)) in
        least_down (n * up k) (down k) b d (round binary64 false a c) (down_pos k) (le_of_eq (sym v.1)) (at_least n k (round binary64 false a c) N t)

pub mul_least : (a c b d : ℕ) (x y : Float) → 0 < a → 0 < b → 0 < c → 0 < d → Least a c x → Least b d y → Stays (a * b) (c * d) → Least (a * b) (c * d) (x ⊗ y)
unfolding mul
mul_least a c b d nan y A B C D v w st = absurd v
mul_least a c b d (inf true) y A B C D v w st = absurd v
mul_least a c b d (fin true m k) y A B C D v w st = absurd v
mul_least a c b d (inf false) nan A B C D v w st = absurd w
mul_least a c b d (inf false) (inf true) A B C D v w st = absurd w
mul_least a c b d (inf false) (inf false) A B C D v w st = tt
mul_least a c b d (inf false) (fin true n l) A B C D v w st = absurd w
mul_least a c b d (inf false) (fin false n l) A B C D v w st = simp (ne_eqb n 0 (not_zero b d n l B w)) tt
mul_least a c b d (fin false m k) nan A B C D v w st = absurd w
mul_least a c b d (fin false m k) (inf true) A B C D v w st = absurd w
mul_least a c b d (fin false m k) (inf false) A B C D v w st = simp (ne_eqb m 0 (not_zero a c m k A v)) tt
mul_least a c b d (fin false m k) (fin true n l) A B C D v w st = absurd w
mul_least a c b d (fin false m k) (fin false n l) A B C D v w st =
    round_least (m * up k * (n * up l)) (down k * down l) (a * b) (c * d) (mul-pos (down_pos k) (down_pos l)) (mul-pos C D) (mul-pos A B)
    (le_trans (le_of_eq (mul-mul-mul_comm a b (down k) (down l))) (le_trans (mul-le-mul v w) (le_of_eq (mul-mul-mul_comm (m * up k) c (n * up l) d)))) st

-- ---- a quotient by what is at least a / c: at most (b / d) / (a / c), and a bound above that
cross : (x p b d y q a c : ℕ) → x * d ≤ b * p → a * q ≤ y * c → x * q * (d * a) ≤ b * c * (y * p)
cross x p b d y q a c h k =
    le_trans (le_of_eq (mul-mul-mul_comm x q d a ∙ ap (λ (z : ℕ). x * d * z) (mul_comm q a)))
    (le_trans (mul-le-mul h k) (le_of_eq (ap (λ (z : ℕ). b * p * z) (mul_comm y c) ∙ mul-mul-mul_comm b p c y ∙ ap (λ (z : ℕ). b * c * z) (mul_comm p y))))

unlike_false : (s : Bool) → unlike s false ≡ s
unlike_false true = refl
unlike_false false = refl

pub div_within : (s : Bool) (b d a c B D : ℕ) (x y : Float) → 0 < d → 0 < a → 0 < D → Within s b d x → Least a c y → b * c * D ≤ B * (d * a) → Stays B D → Within s B D (x ⊘ y)
unfolding div
div_within s b d a c B D nan y d0 a0 D0 v w h st = absurd v
div_within s b d a c B D (inf t) y d0 a0 D0 v w h st = absurd v
div_within s b d a c B D (fin t m e) nan d0 a0 D0 v w h st = absurd w
div_within s b d a c B D (fin t m e) (inf true) d0 a0 D0 v w h st = absurd w
div_within s b d a c B D (fin t m e) (inf false) d0 a0 D0 v w h st = (unlike_false t ∙ v.0, omega arith)
div_within s b d a c B D (fin t m e) (fin true n k) d0 a0 D0 v w h st = absurd w
div_within s b d a c B D (fin t m e) (fin false n k) d0 a0 D0 v w h st =
    let P : 0 < n * up k = first_pos (n * up k) c (lt_of_lt_of_le (mul-pos a0 (down_pos k)) w) in
    simp (ne_eqb n 0 (not_zero a c n k a0 w))
    (subst (λ (z : Bool). Within z B D (round binary64 (unlike t false) (m * up e * down k) (n * up k * down e))) (unlike_false t ∙ v.0)
    (round_stays (unlike t false) (m * up e * down k) (n * up k * down e) B D (mul-pos P (down_pos e)) D0
    (through (m * up e * down k) (b * c) B (n * up k * down e) (d * a) D (mul-pos d0 a0) (cross (m * up e) (down e) b d (n * up k) (down k) a c v.1 w) h) st))

-- ---- a difference: (a + b) / d less at most b / d is at least a / d
between : (A B C a b d : ℕ) → (a + b) * C ≤ A * d → B * d ≤ b * C → a * C + B * d ≤ A * d
between A B C a b d h k = le_trans (add-le-add (le_refl (a * C)) k) (le_trans (le_of_eq (sym (add-mul a b C))) h)

less : (A B d Z : ℕ) → Z + B * d ≤ A * d → Z ≤ (A - B) * d
less A B d Z h = omega (arith, mul_comm (A - B) d, mul-sub d A B, mul_comm A d, mul_comm B d)

more : (A B d Z : ℕ) → Z + B * d ≤ A * d → Z ≤ (A + B) * d
more A B d Z h = omega (arith, add-mul A B d)

sum_least : (t : Bool) (A B C a d : ℕ) → 0 < C → 0 < d → 0 < a → a * C + B * d ≤ A * d → Stays a d → Least a d (sum binary64 false A t B C)
unfolding sum
sum_least false A B C a d C0 D a0 h st = round_least (A + B) C a d C0 D a0 (more A B d (a * C) h) st
sum_least true A B C a d C0 D a0 h st = simp (le-ltb A B (le_of_mul-le-mul_right (le_trans (right (a * C) (B * d)) h) D)) (round_least (A - B) C a d C0 D a0 (less A B d (a * C) h) st)
  where
    right : (x y : ℕ) → y ≤ x + y
    right x y = omega arith

pub sub_least : (a b d : ℕ) (x y : Float) → 0 < a → 0 < d → Least (a + b) d x → Size b d y → Stays a d → Least a d (x ⊖ y)
unfolding sub add neg
sub_least a b d nan y a0 D v w st = absurd v
sub_least a b d (inf true) y a0 D v w st = absurd v
sub_least a b d (fin true m e) y a0 D v w st = absurd v
sub_least a b d (inf false) nan a0 D v w st = absurd w.1
sub_least a b d (inf false) (inf t) a0 D v w st = absurd w.1
sub_least a b d (inf false) (fin t n k) a0 D v w st = tt
sub_least a b d (fin false m e) nan a0 D v w st = absurd w.1
sub_least a b d (fin false m e) (inf t) a0 D v w st = absurd w.1
sub_least a b d (fin false m e) (fin t n k) a0 D v w st =
    sum_least (not t) (m * up e * down k) (n * up k * down e) (down e * down k) a d (mul-pos (down_pos e) (down_pos k)) D a0
    (between (m * up e * down k) (n * up k * down e) (down e * down k) a b d
    (le_trans (le_of_eq (sym (mul_assoc (a + b) (down e) (down k)))) (le_trans (mul-le-mul_right (down k) v) (le_of_eq (mul_right_comm (m * up e) d (down k)))))
    (le_trans (le_of_eq (mul_right_comm (n * up k) (down e) d)) (le_trans (mul-le-mul_right (down e) w.1.1) (le_of_eq (mul_assoc b (down k) (down e) ∙ ap (λ (z : ℕ). b * z) (mul_comm (down k) (down e)))))))
    st

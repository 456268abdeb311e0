-- The meaning of `sqrt_of` and `cbrt_of`: for a finite x above zero each is a value of the format, and no other finite value is nearer to x's root (`sqrt_nearest`, `cbrt_nearest`).
-- In units of the format's smallest value, 2 ^ -1074, x is a, its rounded root is b and the other value is c. Twice x's root, squared, is then a * 2 ^ 1076, and cubed, a * 2 ^ 2151.
-- The theorems speak of values that are not negative: -c is further from a root than c is. Assumes nothing.
use mathlib.Core.Path.{◌≡◌, refl, sym, ap, ◌∙◌, subst}
use mathlib.Core.Logic.{◌⊎◌, inl, inr}
use Prim.Native.Nat.{ℕ, zero, suc, ◌+◌, ◌-◌, ◌*◌, ◌/◌, ◌%◌, ◌^◌, ◌≤◌, ◌<◌}
use native.Mathlib.Nat.{le_trans, le_of_eq, le_of_lt, le_of_suc-le-suc, lt_of_lt_of_le, lt_of_le_of_lt, lt_irrefl, eq-or-lt_of_le, lt_of_not-le, not-le_of_lt, mul-one, mul_assoc, mul_right_comm, mul-pos, zero-lt-suc, mul-le-mul_left, mul-le-mul_right, mul-lt-mul_of_pos_right, lt_of_mul-lt-mul_right, eq_of_mul-eq-mul_right, pow-succ', div-add-mod, mod-lt, le-add_left}
use native.Mathlib.Omega.{arith}
use mathlib.Core.Bool.{Bool, true, false, not, ◌&&◌}
use lib.IntN.{ℤ, pos, negsuc}
use lib.Dec.{T, leb, ltb, eqb, leb→le, ltb→lt, nleb→lt, lit≤}
use lib.Arith.{lt_of_le-ne}
use lib.Pow.{pow-add, pow_pos, pow_mono, pow-lt, shl_lt}
use lib.Ieee.{Float, nan, inf, fin, binary64, up, down, size, fits}
use lib.Ieee.Digits.{size-lt, size-le, size_reaches}
use lib.Ieee.Fits.{and_l, and_r, down_pos}
use lib.Ieee.Exact.{HasValue}
use lib.Ieee.Positive.{first_pos}
use Rattle.laws.proofs.Numbers.{pow_lt_back}
use Rattle.roots.specs.Power.{square, cube}
use Rattle.roots.specs.Root.{rounded, isqrt, sqrt_of}
use Rattle.roots.specs.Cube.{icbrt, cbrt_of}
use Rattle.roots.specs.Nearest.{Nearest, AtLeastAsNear}
use Rattle.roots.proofs.Power.{Power, order, two_pos, square_power, cube_power}
use Rattle.roots.proofs.Whole.{Whole, isqrt_whole, icbrt_whole}
use Rattle.roots.proofs.Value.{odd_below, odd_above, doubled}
use Rattle.roots.proofs.Bits.{q_least, rounded_value, root_of_is, cube_root_of_is}
use Rattle.roots.proofs.Decode.{sqrt_value, cbrt_value}

-- ---- values of the format, in units: m * 2 ^ k with m below 2 ^ 53
record Held (c : ℕ) : Type 0 where
  m : ℕ
  k : ℕ
  small : m < 2 ^ 53
  is : c ≡ m * 2 ^ k

pow_le_back : (a l : ℕ) → 2 ^ a ≤ 2 ^ l → a ≤ l
pow_le_back a l h = le_of_suc-le-suc (lt_of_not-le (λ (g : suc l ≤ a). lt_irrefl (2 ^ l) (lt_of_lt_of_le (pow-lt g) h)))

held_at : (m : ℕ) (e : ℤ) (c : ℕ) → m < 2 ^ 53 → down e ≤ 2 ^ 1074 → m * up e * 2 ^ 1074 ≡ c * down e → Held c
held_at m (pos a) c h d v = record { m = m; k = a + 1074; small = h; is = sym (mul-one c) ∙ sym v ∙ mul_assoc m (2 ^ a) (2 ^ 1074) ∙ ap (λ (z : ℕ). m * z) (sym (pow-add 2 a 1074)) }
held_at m (negsuc a) c h d v = record {
  m = m;
  k = 1074 - suc a;
  small = h;
  is = eq_of_mul-eq-mul_right (2 ^ suc a) (pow_pos (suc a)) c (m * 2 ^ (1074 - suc a))
      (sym v ∙ ap (λ (z : ℕ). z * 2 ^ 1074) (mul-one m) ∙ ap (λ (z : ℕ). m * 2 ^ z) (sym (back a (pow_le_back (suc a) 1074 d))) ∙ ap (λ (z : ℕ). m * z) (pow-add 2 (1074 - suc a) (suc a)) ∙ sym (mul_assoc m (2 ^ (1074 - suc a)) (2 ^ suc a)));
}
  where
    back : (a : ℕ) → suc a ≤ 1074 → 1074 - suc a + suc a ≡ 1074
    back a h = omega arith

held : (z : Float) (c : ℕ) → T (fits binary64 z) → HasValue z false c (2 ^ 1074) → Held c
unfolding fits
held nan c f v = absurd v
held (inf s) c f v = absurd v
held (fin s zero e) c f v = record { m = 0; k = 0; small = lit≤ tt; is = none c (down e) (down_pos e) (sym v.1 ∙ ap (λ (z : ℕ). z * 2 ^ 1074) (zero_up (up e))) }
  where
    zero_up : (u : ℕ) → 0 * u ≡ 0
    zero_up u = omega arith

    none : (c d : ℕ) → 0 < d → c * d ≡ 0 → c ≡ 0
    none zero d h e = refl
    none (suc c) d h e = absurd (lt_irrefl 0 (subst (λ (z : ℕ). 0 < z) e (mul-pos (zero-lt-suc c) h)))
held (fin s (suc m) e) c f v =
    let A = eqb (suc m % 2) 1 in
    let B = ltb (suc m) (2 ^ 53) in
    let C = leb (down e) (2 ^ 1074) in
    let D = ltb (suc m * up e) (2 ^ 1024 * down e) in
    held_at (suc m) e c (ltb→lt (suc m) (2 ^ 53) (and_r A B (and_l (A && B) C (and_l (A && B && C) D f)))) (leb→le (down e) (2 ^ 1074) (and_r (A && B) C (and_l (A && B && C) D f))) v.1

-- ---- the gap beside b = q * 2 ^ j, for a q of 53 digits
module _ (p j c : ℕ) (H : Held c) (Q : 2 ^ 52 ≤ suc p) where
  -- c is a multiple of 2 ^ j, or it is below 2 ^ 52 of those
  grid : ((u : ℕ) × (c ≡ u * 2 ^ j)) ⊎ (c < 2 ^ 52 * 2 ^ j)
  grid = go (leb j H.k) (leb→le j H.k) (nleb→lt j H.k)
    where
      sum : (j k : ℕ) → j ≤ k → k - j + j ≡ k
      sum j k h = omega arith

      go : (t : Bool) → (T t → j ≤ H.k) → (T (not t) → H.k < j) → ((u : ℕ) × (c ≡ u * 2 ^ j)) ⊎ (c < 2 ^ 52 * 2 ^ j)
      go true h g = inl (H.m * 2 ^ (H.k - j), H.is ∙ ap (λ (z : ℕ). H.m * 2 ^ z) (sym (sum j H.k (h tt))) ∙ ap (λ (z : ℕ). H.m * z) (pow-add 2 (H.k - j) j) ∙ sym (mul_assoc H.m (2 ^ (H.k - j)) (2 ^ j)))
      go false h g = inr (lt_of_le_of_lt (le_of_eq H.is) (lt_of_lt_of_le (mul-lt-mul_of_pos_right H.small (pow_pos H.k))
          (le_trans (le_of_eq (mul_assoc (2 ^ 52) 2 (2 ^ H.k) ∙ ap (λ (z : ℕ). 2 ^ 52 * z) (sym (pow-succ' 2 H.k)))) (mul-le-mul_left (2 ^ 52) (pow_mono (g tt))))))

  next : suc p * 2 ^ j < c → suc (suc p) * 2 ^ j ≤ c
  next h = go grid
    where
      go : ((u : ℕ) × (c ≡ u * 2 ^ j)) ⊎ (c < 2 ^ 52 * 2 ^ j) → suc (suc p) * 2 ^ j ≤ c
      go (inl w) = le_trans (mul-le-mul_right (2 ^ j) (lt_of_mul-lt-mul_right (2 ^ j) (subst (λ (z : ℕ). suc p * 2 ^ j < z) w.1 h))) (le_of_eq (sym w.1))
      go (inr l) = absurd (lt_irrefl c (lt_of_lt_of_le l (le_trans (mul-le-mul_right (2 ^ j) Q) (le_of_lt h))))

  -- the value before b, or one that is no more than half of twice 2 ^ 52 * 2 ^ j, where b is 2 ^ 52 * 2 ^ j
  last : c < suc p * 2 ^ j → (c ≤ p * 2 ^ j) ⊎ ((suc p ≡ 2 ^ 52) × (c < 2 ^ 52 * 2 ^ j))
  last h = go grid
    where
      split : (l : c < 2 ^ 52 * 2 ^ j) → (2 ^ 52 ≡ suc p) ⊎ (2 ^ 52 < suc p) → (c ≤ p * 2 ^ j) ⊎ ((suc p ≡ 2 ^ 52) × (c < 2 ^ 52 * 2 ^ j))
      split l (inl e) = inr (sym e, l)
      split l (inr g) = inl (le_trans (le_of_lt l) (mul-le-mul_right (2 ^ j) (le_of_suc-le-suc g)))

      go : ((u : ℕ) × (c ≡ u * 2 ^ j)) ⊎ (c < 2 ^ 52 * 2 ^ j) → (c ≤ p * 2 ^ j) ⊎ ((suc p ≡ 2 ^ 52) × (c < 2 ^ 52 * 2 ^ j))
      go (inl w) = inl (le_trans (le_of_eq w.1) (mul-le-mul_right (2 ^ j) (le_of_suc-le-suc (lt_of_mul-lt-mul_right (2 ^ j) (subst (λ (z : ℕ). z < suc p * 2 ^ j) w.1 h)))))
      go (inr l) = split l (eq-or-lt_of_le Q)

  module _ (f : ℕ → ℕ) {D : ℕ} (P : Power f D) (N : ℕ) (R : Nearest f N (suc p)) (lo : f (2 ^ 52) ≤ N) where
    larger : suc p * 2 ^ j < c → N * f (2 * 2 ^ j) ≤ f (suc p * 2 ^ j + c)
    larger h =
        le_trans (le_of_eq (sym (doubled f P N (2 ^ j)))) (le_trans (mul-le-mul_right (f (2 ^ j)) (le_of_lt (subst (λ (z : ℕ). f 2 * N < f z) (odd_above p) R.above)))
        (le_trans (le_of_eq (sym (P.mul (2 * p + 3) (2 ^ j)))) (P.mono ((2 * p + 3) * 2 ^ j) (suc p * 2 ^ j + c) (add (2 ^ j) (next h)))))
      where
        add : (x : ℕ) → suc (suc p) * x ≤ c → (2 * p + 3) * x ≤ suc p * x + c
        add x h = omega arith

    smaller : c < suc p * 2 ^ j → f (suc p * 2 ^ j + c) ≤ N * f (2 * 2 ^ j)
    smaller h = go (last h)
      where
        add : (x : ℕ) → c ≤ p * x → suc p * x + c ≤ (2 * p + 1) * x
        add x h = omega arith

        twice : (a x : ℕ) → suc p ≡ a → c < a * x → suc p * x + c ≤ a * (2 * x)
        twice a x e h = subst (λ (q : ℕ). q * x + c ≤ a * (2 * x)) (sym e) (omega arith)

        go : (c ≤ p * 2 ^ j) ⊎ ((suc p ≡ 2 ^ 52) × (c < 2 ^ 52 * 2 ^ j)) → f (suc p * 2 ^ j + c) ≤ N * f (2 * 2 ^ j)
        go (inl l) =
            le_trans (P.mono (suc p * 2 ^ j + c) ((2 * p + 1) * 2 ^ j) (add (2 ^ j) l)) (le_trans (le_of_eq (P.mul (2 * p + 1) (2 ^ j)))
            (le_trans (mul-le-mul_right (f (2 ^ j)) (le_of_lt (subst (λ (z : ℕ). f z < f 2 * N) (odd_below p) R.below))) (le_of_eq (doubled f P N (2 ^ j)))))
        go (inr w) =
            le_trans (P.mono (suc p * 2 ^ j + c) (2 ^ 52 * (2 * 2 ^ j)) (twice (2 ^ 52) (2 ^ j) w.0 w.1)) (le_trans (le_of_eq (P.mul (2 ^ 52) (2 * 2 ^ j))) (mul-le-mul_right (f (2 * 2 ^ j)) lo))

-- ---- every number above zero has a nearest whole root: half of the root of 2's power times it, which is h and a rest, rounded up
nearest_of : (f : ℕ → ℕ) {D : ℕ} → Power f D → (N h : ℕ) → 0 < N → Whole f (f 2 * N) h → (q : ℕ) × Nearest f N q
nearest_of f P N h some W =
    let b = beside h (le_of_suc-le-suc (le_of_lt (order f P 2 (suc h) (lt_of_le_of_lt (le_trans (le_of_eq (sym (mul-one (f 2)))) (mul-le-mul_left (f 2) some)) W.1)))) in
    let q = suc h / 2 in (
      q,
      record {
        some = b.0;
        below = lt_of_le-ne (le_trans (P.mono (2 * q - 1) h b.1) W.0) (λ (e : f (2 * q - 1) ≡ f 2 * N). P.odd (q - 1) N (subst (λ (z : ℕ). f z ≡ f 2 * N) b.3 e));
        above = lt_of_lt_of_le W.1 (P.mono (suc h) (2 * q + 1) b.2);
      },
    )
  where
    beside : (h : ℕ) → 1 ≤ h → (0 < suc h / 2) × (2 * (suc h / 2) - 1 ≤ h) × (suc h ≤ 2 * (suc h / 2) + 1) × (2 * (suc h / 2) - 1 ≡ 2 * (suc h / 2 - 1) + 1)
    beside h l = (omega arith, omega arith, omega arith, omega arith)

-- ---- n as N times a power of 2 ^ (j + 1), for an N whose root has 53 digits
record Scaled (f : ℕ → ℕ) (n : ℕ) : Type 0 where
  N : ℕ
  j : ℕ
  is : n ≡ N * f (2 * 2 ^ j)
  lo : f (2 ^ 52) ≤ N
  hi : N < f (2 ^ 53)

-- s is m's size and t the exponent to share out: i of it stay with m
module _ (f : ℕ → ℕ) {D : ℕ} (P : Power f D) (m t : ℕ) (M : 0 < m) (S : m < 2 ^ 53) (some : 0 < D) (enough : 53 * D < t) where
  size_pos : 0 < size m
  size_pos = lt_of_not-le (λ (g : size m ≤ 0). not-le_of_lt (lt_of_lt_of_le (size-lt m) (pow_mono g)) M)

  shared : (h r : ℕ) → D * h + r ≡ t - (52 * D + 1 - size m) → r < D → Scaled f (m * 2 ^ t)
  shared zero r e l = absurd (none (size m) (D) size_pos some enough e l)
    where
      none : (s D : ℕ) → 0 < s → 0 < D → 53 * D < t → D * 0 + r ≡ t - (52 * D + 1 - s) → r < D → ⊥
      none s D a b c e l = omega arith
  shared (suc j) r e l =
      let i = 52 * D + 1 - size m + r in
      let w = facts (size m) (D) (D * suc j) size_pos (size-le m 53 S) some enough e l in
      record {
        N = m * 2 ^ i;
        j = j;
        is = ap (λ (z : ℕ). m * z) (ap (λ (z : ℕ). 2 ^ z) w.0 ∙ pow-add 2 i (D * suc j) ∙ ap (λ (z : ℕ). 2 ^ i * z) (sym (P.two (suc j)) ∙ ap f (pow-succ' 2 j))) ∙ sym (mul_assoc m (2 ^ i) (f (2 * 2 ^ j)));
        lo = le_trans (le_of_eq (P.two 52)) (le_trans (pow_mono w.1) (le_trans (le_of_eq (pow-add 2 (size m - 1) i)) (mul-le-mul_right (2 ^ i) (size_reaches m (size m - 1) w.3))));
        hi = lt_of_lt_of_le (shl_lt (size m) i (size-lt m)) (le_trans (pow_mono w.2) (le_of_eq (sym (P.two 53))));
      }
    where
      facts : (s D p : ℕ) → 0 < s → s ≤ 53 → 0 < D → 53 * D < t → p + r ≡ t - (52 * D + 1 - s) → r < D →
          let i = 52 * D + 1 - s + r in
          (t ≡ i + p) × (D * 52 ≤ s - 1 + i) × (s + i ≤ D * 53) × (s - 1 < s)
      facts s D p a b c d e l = (omega arith, omega arith, omega arith, omega arith)

  scaled : Scaled f (m * 2 ^ t)
  scaled = let x = t - (52 * D + 1 - size m) in shared (x / D) (x % D) (div-add-mod x (D)) (mod-lt x some)

-- ---- the theorem
below_top : (x : Float) (a : ℕ) → T (fits binary64 x) → HasValue x false a (2 ^ 1074) → 0 < a → a < 2 ^ 2098
unfolding fits
below_top nan a f v A = absurd v
below_top (inf s) a f v A = absurd v
below_top (fin s zero e) a f v A = absurd (lt_irrefl 0 (subst (λ (z : ℕ). 0 < z) (sym v.1 ∙ none (up e) (2 ^ 1074)) (mul-pos A (down_pos e))))
  where
    none : (u w : ℕ) → 0 * u * w ≡ 0
    none u w = omega arith
below_top (fin s (suc m) e) a f v A =
    lt_of_mul-lt-mul_right (down e) (subst (λ (z : ℕ). z < 2 ^ 2098 * down e) v.1
    (lt_of_lt_of_le (mul-lt-mul_of_pos_right (ltb→lt (suc m * up e) (2 ^ 1024 * down e) (and_r (eqb (suc m % 2) 1 && ltb (suc m) (2 ^ 53) && leb (down e) (2 ^ 1074)) (ltb (suc m * up e) (2 ^ 1024 * down e)) f)) (pow_pos 1074))
    (le_of_eq (mul_right_comm (2 ^ 1024) (down e) (2 ^ 1074)))))

-- for a power with its root's whole part, at a * 2 ^ E
module _ (f : ℕ → ℕ) {D : ℕ} (P : Power f D) (root : ℕ → ℕ) (whole : (n : ℕ) → Whole f n (root n)) (E : ℕ) (some : 0 < D) (enough : 53 * D < E)
    (room : (j : ℕ) → D * 52 + D * suc j < 2098 + E → j < 1534) where
  few : (a : ℕ) → a < 2 ^ 2098 → (S : Scaled f (a * 2 ^ E)) → S.j < 1534
  few a top S = room S.j (pow_lt_back (D * 52 + D * suc S.j) (2098 + E)
      (lt_of_le_of_lt (le_of_eq (pow-add 2 (D * 52) (D * suc S.j) ∙ ap (λ (z : ℕ). z * 2 ^ (D * suc S.j)) (sym (P.two 52)) ∙ ap (λ (z : ℕ). f (2 ^ 52) * z) (sym (P.two (suc S.j)) ∙ ap f (pow-succ' 2 S.j))))
      (lt_of_le_of_lt (mul-le-mul_right (f (2 * 2 ^ S.j)) S.lo) (lt_of_le_of_lt (le_of_eq (sym S.is)) (shl_lt 2098 E top)))))

  at_q : (n c q : ℕ) (S : Scaled f n) → S.j < 1534 → Held c → Nearest f S.N q → (b : ℕ) × HasValue (rounded f n (root n)) false b (2 ^ 1074) × AtLeastAsNear f n b c
  at_q n c zero S J H R = absurd (lt_irrefl 0 R.some)
  at_q n c (suc p) S J H R = (
    suc p * 2 ^ S.j,
    rounded_value f P S.N (suc p) R S.lo S.hi n S.j (root n) S.is J (whole n),
    record {
      to_larger = λ h. le_trans (le_of_eq S.is) (larger p S.j c H Q f P S.N R S.lo h);
      to_smaller = λ h. le_trans (smaller p S.j c H Q f P S.N R S.lo h) (le_of_eq (sym S.is));
    },
  )
    where
      Q : 2 ^ 52 ≤ suc p
      Q = q_least f P S.N (suc p) R S.lo S.hi

  nearest : (x z : Float) (a c : ℕ) → T (fits binary64 x) → T (fits binary64 z) → 0 < a → HasValue x false a (2 ^ 1074) → HasValue z false c (2 ^ 1074)
      → (b : ℕ) × HasValue (rounded f (a * 2 ^ E) (root (a * 2 ^ E))) false b (2 ^ 1074) × AtLeastAsNear f (a * 2 ^ E) b c
  nearest x z a c F G A v w =
      let H = held x a F v in
      let S : Scaled f (a * 2 ^ E) = subst (λ (y : ℕ). Scaled f y) (sym (ap (λ (y : ℕ). y * 2 ^ E) H.is ∙ mul_assoc H.m (2 ^ H.k) (2 ^ E) ∙ ap (λ (y : ℕ). H.m * y) (sym (pow-add 2 H.k E))))
      (scaled f P H.m (H.k + E) (first_pos H.m (2 ^ H.k) (subst (λ (y : ℕ). 0 < y) H.is A)) H.small some (le_trans enough (le-add_left E H.k))) in
      let R = nearest_of f P S.N (root (f 2 * S.N)) (lt_of_lt_of_le (two_pos f P 52) S.lo) (whole (f 2 * S.N)) in
      at_q (a * 2 ^ E) c R.0 S (few a (below_top x a F v A) S) (held z c G w) R.1

pub sqrt_nearest : (x z : Float) (a c : ℕ) → T (fits binary64 x) → T (fits binary64 z) → 0 < a → HasValue x false a (2 ^ 1074) → HasValue z false c (2 ^ 1074)
    → (b : ℕ) × HasValue (sqrt_of x) false b (2 ^ 1074) × AtLeastAsNear square (a * 2 ^ 1076) b c
sqrt_nearest x z a c F G A v w =
    let r = nearest square square_power isqrt isqrt_whole 1076 (lit≤ tt) (lit≤ tt) (λ (j : ℕ) h. room j h) x z a c F G A v w in
    (r.0, subst (λ (y : Float). HasValue y false r.0 (2 ^ 1074)) (root_of_is (a * 2 ^ 1076) ∙ sqrt_value x a A v) r.1, r.2)
  where
    room : (j : ℕ) → 2 * 52 + 2 * suc j < 2098 + 1076 → j < 1534
    room j h = omega arith

pub cbrt_nearest : (x z : Float) (a c : ℕ) → T (fits binary64 x) → T (fits binary64 z) → 0 < a → HasValue x false a (2 ^ 1074) → HasValue z false c (2 ^ 1074)
    → (b : ℕ) × HasValue (cbrt_of x) false b (2 ^ 1074) × AtLeastAsNear cube (a * 2 ^ 2151) b c
cbrt_nearest x z a c F G A v w =
    let r = nearest cube cube_power icbrt icbrt_whole 2151 (lit≤ tt) (lit≤ tt) (λ (j : ℕ) h. room j h) x z a c F G A v w in
    (r.0, subst (λ (y : Float). HasValue y false r.0 (2 ^ 1074)) (cube_root_of_is (a * 2 ^ 2151) ∙ cbrt_value x a A v) r.1, r.2)
  where
    room : (j : ℕ) → 3 * 52 + 3 * suc j < 2098 + 2151 → j < 1534
    room j h = omega arith

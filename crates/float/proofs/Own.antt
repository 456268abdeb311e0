-- A value that f64 holds is written in one way, so rounding its own fraction gives it back, and v % c is v for a v below c in size. Assumes nothing.
use Rattle.std.proofs.Common.{◌≡◌, ℕ, zero, suc, ◌+◌, ◌-◌, ◌*◌, ◌%◌, ◌^◌, ◌<◌, ◌≤◌, Bool, true, false, ◌&&◌, T, eqb, ltb, leb, ℤ, pos, negsuc, sym, refl, ap, ◌∙◌, subst, true≢false, le_of_suc-le-suc, lt_irrefl, add-suc, mod-eq_of_lt, zero-lt-suc, mul_assoc, mul_comm, lt_of_mul-lt-mul_right, mul-lt-mul_of_pos_right, mul-pos, one-mul, pow-suc, lt_of_not-le, zero-mul, mul-one, suc-ne-zero, mul_right_comm, not-le_of_lt, mul_left_comm, arith, ne_eqb, lit<, lit≤, eqb→eq, ltb→lt, leb→le, pow_pos, pow-add, ltb-true}
use native.Mathlib.Nat.{suc_inj, pow-succ', eq_of_mul-eq-mul_right}
use lib.Pow.{pow-lt}
use lib.Ieee.{Float, nan, inf, fin, binary64, up, down, fits, round, rem, lt, neg}
use lib.Ieee.Fits.{and_l, and_r, up_pos, down_pos, round-fits}
use lib.Ieee.Exact.{HasValue, round_exact}
use lib.Ieee.Scale.{round_same}
use Rattle.float.specs.Ops.{◌⊛◌}

-- ---- m × 2 ^ a, m odd, has one m and one a
even_odd : (m t : ℕ) → m % 2 ≡ 1 → m ≡ 2 * t → ⊥
even_odd m t o h = omega arith

odd_pow : (m n a b : ℕ) → m % 2 ≡ 1 → n % 2 ≡ 1 → m * 2 ^ a ≡ n * 2 ^ b → (m ≡ n) × (a ≡ b)
odd_pow m n zero zero o p h = (sym (mul-one m) ∙ h ∙ mul-one n, refl)
odd_pow m n zero (suc b) o p h = absurd (even_odd m (n * 2 ^ b) o (sym (mul-one m) ∙ h ∙ ap (λ (x : ℕ). n * x) (pow-succ' 2 b) ∙ mul_left_comm n 2 (2 ^ b)))
odd_pow m n (suc a) zero o p h = absurd (even_odd n (m * 2 ^ a) p (sym (mul-one n) ∙ sym h ∙ ap (λ (x : ℕ). m * x) (pow-succ' 2 a) ∙ mul_left_comm m 2 (2 ^ a)))
odd_pow m n (suc a) (suc b) o p h =
    let r = odd_pow m n a b o p (eq_of_mul-eq-mul_right 2 (zero-lt-suc 1) (m * 2 ^ a) (n * 2 ^ b)
    (mul_assoc m (2 ^ a) 2 ∙ ap (λ (x : ℕ). m * x) (sym (pow-suc 2 a)) ∙ h ∙ ap (λ (x : ℕ). n * x) (pow-suc 2 b) ∙ sym (mul_assoc n (2 ^ b) 2))) in
    (r.0, ap suc r.1)

-- n × 2 ^ d = m × 2 ^ e
same_parts : (n : ℕ) (d : ℤ) (m : ℕ) (e : ℤ) → n % 2 ≡ 1 → m % 2 ≡ 1 → n * up d * down e ≡ m * up e * down d → (n ≡ m) × (d ≡ e)
same_parts n (pos a) m (pos b) o p h =
    let r = odd_pow n m a b o p (sym (mul-one (n * 2 ^ a)) ∙ h ∙ mul-one (m * 2 ^ b)) in
    (r.0, ap pos r.1)
same_parts n (pos a) m (negsuc l) o p h =
    let r = odd_pow n m (a + suc l) 0 o p (ap (λ (x : ℕ). n * x) (pow-add 2 a (suc l)) ∙ sym (mul_assoc n (2 ^ a) (2 ^ suc l)) ∙ h ∙ ap (λ (x : ℕ). x * 1) (mul-one m)) in
    absurd (suc-ne-zero (a + l) (sym (add-suc a l) ∙ r.1))
same_parts n (negsuc k) m (pos b) o p h =
    let r = odd_pow n m 0 (b + suc k) o p (ap (λ (x : ℕ). x * 1) (sym (mul-one n)) ∙ h ∙ mul_assoc m (2 ^ b) (2 ^ suc k) ∙ ap (λ (x : ℕ). m * x) (sym (pow-add 2 b (suc k)))) in
    absurd (suc-ne-zero (b + k) (sym (add-suc b k) ∙ sym r.1))
same_parts n (negsuc k) m (negsuc l) o p h =
    let r = odd_pow n m (suc l) (suc k) o p (ap (λ (x : ℕ). x * 2 ^ suc l) (sym (mul-one n)) ∙ h ∙ ap (λ (x : ℕ). x * 2 ^ suc k) (mul-one m)) in
    (r.0, ap negsuc (sym (suc_inj r.1)))

-- ---- what fitting says of a number other than zero: odd, of 53 digits, a multiple of 2 ^ -1074, below 2 ^ 1024
pub record Held (m : ℕ) (e : ℤ) : Type 0 where
  pub odd : m % 2 ≡ 1
  pub digits : m < 2 ^ 53
  pub least : down e ≤ 2 ^ 1074
  pub greatest : m * up e < 2 ^ 1024 * down e

pub held : (s : Bool) (m : ℕ) (e : ℤ) → T (fits binary64 (fin s (suc m) e)) → Held (suc m) e
unfolding fits
held s m e t =
    let a = eqb (suc m % 2) 1 in
    let b = ltb (suc m) (2 ^ 53) in
    let c = leb (down e) (2 ^ 1074) in
    let d = ltb (suc m * up e) (2 ^ 1024 * down e) in
    let abc = and_l (a && b && c) d t in
    let ab = and_l (a && b) c abc in
    record {
      odd = eqb→eq (suc m % 2) 1 (and_l a b ab);
      digits = ltb→lt (suc m) (2 ^ 53) (and_r a b ab);
      least = leb→le (down e) (2 ^ 1074) (and_r (a && b) c abc);
      greatest = ltb→lt (suc m * up e) (2 ^ 1024 * down e) (and_r (a && b && c) d t);
    }

-- ---- rounding a value's own fraction
above_zero : (m x y : ℕ) → 0 < x → 0 < y → zero ≡ suc m * x * y → ⊥
above_zero m x y p q h = lt_irrefl 0 (subst (λ (n : ℕ). 0 < n) (sym h) (mul-pos (mul-pos (zero-lt-suc m) p) q))

unique : (x : Float) (s : Bool) (m : ℕ) (e : ℤ) → T (fits binary64 x) → Held (suc m) e → HasValue x s (suc m * up e) (down e) → x ≡ fin s (suc m) e
unique nan s m e f k v = absurd v
unique (inf t) s m e f k v = absurd v
unique (fin t zero d) s m e f k v =
    absurd (above_zero m (up e) (down d) (up_pos e) (down_pos d) (sym (zero-mul (down e)) ∙ ap (λ (n : ℕ). n * down e) (sym (zero-mul (up d))) ∙ v.1))
unique (fin t (suc n) d) s m e f k v =
    let r = same_parts (suc n) d (suc m) e (held t n d f).odd k.odd v.1 in
    let a : t ≡ s = v.0 in
    let b : suc n ≡ suc m = r.0 in
    let c : d ≡ e = r.1 in
    cc

pub places : (e : ℤ) → down e ≤ 2 ^ 1074 → (j : ℕ) × (up e * 2 ^ 1074 ≡ 2 ^ j * down e)
places (pos a) h = (a + 1074, sym (pow-add 2 a 1074) ∙ sym (mul-one (2 ^ (a + 1074))))
places (negsuc k) h =
    let l : suc k ≤ 1074 = le_of_suc-le-suc (lt_of_not-le (λ (g : 1075 ≤ suc k). let g2 : 1074 < suc k = g in not-le_of_lt (pow-lt g2) h)) in
    let q : 1074 - suc k + suc k ≡ 1074 = omega arith in
    (1074 - suc k, one-mul (2 ^ 1074) ∙ ap (λ (n : ℕ). 2 ^ n) (sym q) ∙ pow-add 2 (1074 - suc k) (suc k))

pub round_own : (s : Bool) (m : ℕ) (e : ℤ) → T (fits binary64 (fin s (suc m) e)) → round binary64 s (suc m * up e) (down e) ≡ fin s (suc m) e
round_own s m e f =
    let k = held s m e f in
    let w = places e k.least in
    let j = w.0 in
    let D = down e in
    let p : suc m * up e * 2 ^ 1074 ≡ suc m * 2 ^ j * D = mul_assoc (suc m) (up e) (2 ^ 1074) ∙ ap (λ (n : ℕ). suc m * n) w.1 ∙ sym (mul_assoc (suc m) (2 ^ j) D) in
    let q : suc m * 2 ^ j < 2 ^ 2098 = lt_of_mul-lt-mul_right D
    (subst (λ (n : ℕ). n < 2 ^ 2098 * D) p
    (subst (λ (n : ℕ). suc m * up e * 2 ^ 1074 < n) (mul_right_comm (2 ^ 1024) D (2 ^ 1074)) (mul-lt-mul_of_pos_right k.greatest (pow_pos 1074)))) in
    unique (round binary64 s (suc m * up e) D) s m e (round-fits binary64 s (suc m * up e) D) k
    (round_exact binary64 s (suc m * up e) D (suc m) j (down_pos e) k.digits q p)

two_up : (p : ℕ) → 0 < p → 2 * p ≡ 1 → ⊥
two_up p h e = omega arith

pub flat : (e : ℤ) → up e * down e ≡ 1 → e ≡ pos 0
flat (pos zero) h = refl
flat (pos (suc k)) h = absurd (two_up (2 ^ k) (pow_pos k) (sym (pow-succ' 2 k) ∙ sym (mul-one (2 ^ suc k)) ∙ h))
flat (negsuc k) h = absurd (two_up (2 ^ k) (pow_pos k) (sym (pow-succ' 2 k) ∙ sym (one-mul (2 ^ suc k)) ∙ h))

zero_own : (s : Bool) → round binary64 s 0 1 ≡ fin s zero (pos 0)
unfolding round
zero_own true = refl
zero_own false = refl

pub own : (s : Bool) (m : ℕ) (e : ℤ) → T (fits binary64 (fin s m e)) → round binary64 s (m * up e) (down e) ≡ fin s m e
own s zero e f = unfold fits in subst (λ (x : ℤ). round binary64 s (zero * up x) (down x) ≡ fin s zero x) (sym (flat e (eqb→eq (up e * down e) 1 f))) (zero_own s)
own s (suc m) e f = round_own s m e f

-- ---- 2^c times a value is exact where it does not overflow
-- whatever fits, a zero too
pub few : (s : Bool) (m : ℕ) (e : ℤ) → T (fits binary64 (fin s m e)) → (m < 2 ^ 53) × (down e ≤ 2 ^ 1074)
few s zero e f = unfold fits in (lit< tt, subst (λ (x : ℤ). down x ≤ 2 ^ 1074) (sym (flat e (eqb→eq (up e * down e) 1 f))) (lit≤ tt))
few s (suc m) e f = let k = held s m e f in (k.digits, k.least)

pub scaled : (m : ℕ) (e : ℤ) (c : ℕ) → T (fits binary64 (fin false m e)) → m * up e * 2 ^ c < 2 ^ 1024 * down e
    → HasValue (round binary64 false (m * up e * 2 ^ c) (down e * 1)) false (m * up e * 2 ^ c) (down e)
scaled m e c f h =
    let k = few false m e f in
    let w = places e k.1 in
    let j = w.0 in
    let D = down e in
    let A = m * up e in
    let p : A * 2 ^ 1074 ≡ m * 2 ^ j * D = mul_assoc m (up e) (2 ^ 1074) ∙ ap (λ (x : ℕ). m * x) w.1 ∙ sym (mul_assoc m (2 ^ j) D) in
    let q : m * 2 ^ (j + c) ≡ m * 2 ^ j * 2 ^ c = ap (λ (x : ℕ). m * x) (pow-add 2 j c) ∙ sym (mul_assoc m (2 ^ j) (2 ^ c)) in
    let t : A * 2 ^ c * 2 ^ 1074 ≡ m * 2 ^ (j + c) * D = mul_right_comm A (2 ^ c) (2 ^ 1074) ∙ ap (λ (x : ℕ). x * 2 ^ c) p ∙ mul_right_comm (m * 2 ^ j) D (2 ^ c) ∙ ap (λ (x : ℕ). x * D) (sym q) in
    subst (HasValue (round binary64 false (A * 2 ^ c) (D * 1)) false (A * 2 ^ c)) (mul-one D)
    (round_exact binary64 false (A * 2 ^ c) (D * 1) m (j + c) (subst (λ (x : ℕ). 0 < x) (sym (mul-one D)) (down_pos e)) k.0
    (lt_of_mul-lt-mul_right D (subst (λ (x : ℕ). x < 2 ^ 2098 * D) t (subst (λ (x : ℕ). A * 2 ^ c * 2 ^ 1074 < x) (mul_right_comm (2 ^ 1024) D (2 ^ 1074)) (mul-lt-mul_of_pos_right h (pow_pos 1074)))))
    (t ∙ ap (λ (x : ℕ). m * 2 ^ (j + c) * x) (sym (mul-one D))))

-- ---- v % d for a v below d in size
kept : (s : Bool) (m : ℕ) (e : ℤ) (n : ℕ) (d : ℤ) → T (fits binary64 (fin s m e)) → m * up e * down d < n * up d * down e → fin s m e ⊛ fin false n d ≡ fin s m e
unfolding rem
kept s m e zero d f h = absurd (none (m * up e * down d) (zero * up d * down e) (ap (λ (x : ℕ). x * down e) (zero-mul (up d)) ∙ zero-mul (down e)) h)
  where
    none : (a c : ℕ) → c ≡ 0 → a < c → ⊥
    none a c k h = omega arith
kept s m e (suc n) d f h =
    let not_zero : eqb (suc n) 0 ≡ false = ne_eqb (suc n) 0 (suc-ne-zero n) in
    rw not_zero
    (ap (λ (x : ℕ). round binary64 s x (down e * down d)) (mod-eq_of_lt h)
    ∙ round_same binary64 s (m * up e * down d) (down e * down d) (m * up e) (down e) (mul-pos (down_pos e) (down_pos d)) (down_pos e)
    (mul_assoc (m * up e) (down d) (down e) ∙ ap (λ (x : ℕ). m * up e * x) (mul_comm (down d) (down e)))
    ∙ own s m e f)

pub small_rem : (v d : Float) → T (fits binary64 v) → lt v d ≡ true → lt (neg d) v ≡ true → v ⊛ d ≡ v
unfolding lt neg rem
small_rem nan d f p q = absurd (true≢false (sym p))
small_rem (inf s) nan f p q = absurd (true≢false (sym p))
small_rem (inf true) (inf true) f p q = absurd (true≢false (sym p))
small_rem (inf true) (inf false) f p q = absurd (true≢false (sym q))
small_rem (inf false) (inf t) f p q = absurd (true≢false (sym p))
small_rem (inf true) (fin t n d) f p q = absurd (true≢false (sym q))
small_rem (inf false) (fin t n d) f p q = absurd (true≢false (sym p))
small_rem (fin s m e) nan f p q = absurd (true≢false (sym p))
small_rem (fin s m e) (inf t) f p q = refl
small_rem (fin false m e) (fin true n d) f p q = absurd (true≢false (sym p))
small_rem (fin true m e) (fin true n d) f p q = absurd (true≢false (sym q))
small_rem (fin false m e) (fin false n d) f p q = kept false m e n d f (ltb-true (m * up e * down d) (n * up d * down e) p)
small_rem (fin true m e) (fin false n d) f p q = kept true m e n d f (ltb-true (m * up e * down d) (n * up d * down e) q)

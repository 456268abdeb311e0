-- The remainder by exact steps: twice a float, half of one, and a difference of two that are near each other are exact, and what is taken away is a
-- multiple of the divisor. Assumes nothing.
use Rattle.std.proofs.Common.{◌≡◌, ℕ, zero, suc, ◌+◌, ◌-◌, ◌*◌, ◌%◌, ◌^◌, ◌<◌, ◌≤◌, Bool, true, false, cond, T, eqb, ltb, ℤ, pos, sym, refl, ap, ◌∙◌, subst, true≢false, le_trans, le_of_lt, add-zero, mod-eq_of_lt, zero-lt-suc, suc-ne-zero, add_comm, mul_assoc, mul_comm, lt_of_mul-lt-mul_right, mul-lt-mul_of_pos_right, mul-pos, one-mul, lt_of_not-le, zero-mul, mul-one, mul_right_comm, not-le_of_lt, mul-le-mul_right, lt_of_le_of_lt, lt_of_lt_of_le, arith, lit<, lit≤, pow_pos, pow-add, pow_mono, ltb-true, not, ◌&&◌, inl, inr, ◌⊎◌}
use Rattle.std.proofs.lemmas.Bool.{ltb-false, le-ltb}
use Rattle.std.proofs.Math.Nat.{add-mul-mod_self_right, eq_of_mul-eq-mul_right, mul-sub, sub-add_cancel}
use native.Mathlib.Decide.{dec_le}
use borrow.Author.Tests.{ne_eqb}
use lib.Ieee.{Float, nan, inf, fin, binary64, up, down, lt, fits, round, rem, add, sub, mul, neg, sum, of_bits}
use lib.Ieee.Fits.{up_pos, down_pos}
use lib.Ieee.Exact.{HasValue, round_exact}
use lib.Ieee.Scale.{round_same}
use Rattle.float.specs.Ops.{◌⊕◌, ◌⊖◌, ◌⊗◌, ◌⊛◌, bits}
use Rattle.float.proofs.Own.{few, places, own, held}
use Rattle.float.proofs.Rest.{mod_scale, same_mod}
use Rattle.float.proofs.Rounding.{neg_round}

-- ---- x is q × 2^j of the format's smallest values, and q has 53 digits
pub record Units (x : Float) (q j : ℕ) : Type 0 where
  pub value : HasValue x false (q * 2 ^ j) (2 ^ 1074)
  pub is : x ≡ round binary64 false (q * 2 ^ j) (2 ^ 1074)
  pub digits : q < 2 ^ 53
  pub most : q * 2 ^ j < 2 ^ 2098

-- the same size over another denominator
moved : (y : Float) (s : Bool) (num c w l : ℕ) → 0 < c → num * l ≡ w * c → HasValue y s num c → HasValue y s w l
moved nan s num c w l p h v = absurd v
moved (inf t) s num c w l p h v = absurd v
moved (fin t m e) s num c w l p h v = (
  v.0,
  eq_of_mul-eq-mul_right c p (m * up e * l) (w * down e)
      (mul_right_comm (m * up e) l c
      ∙ ap (λ (n : ℕ). n * l) v.1
      ∙ mul_right_comm num (down e) l
      ∙ ap (λ (n : ℕ). n * down e) h
      ∙ mul_right_comm w c (down e)),
)

-- what an operation rounds is exact
made : (num c q j : ℕ) → 0 < c → q < 2 ^ 53 → q * 2 ^ j < 2 ^ 2098 → num * 2 ^ 1074 ≡ q * 2 ^ j * c → Units (round binary64 false num c) q j
made num c q j p d b h =
    record {
      value = moved (round binary64 false num c) false num c (q * 2 ^ j) (2 ^ 1074) p h (round_exact binary64 false num c q j p d b h);
      is = round_same binary64 false num c (q * 2 ^ j) (2 ^ 1074) p (pow_pos 1074) h;
      digits = d;
      most = b;
    }

least_most : (m : ℕ) (e : ℤ) (j : ℕ) → T (fits binary64 (fin false m e)) → m * up e * 2 ^ 1074 ≡ m * 2 ^ j * down e → m * 2 ^ j < 2 ^ 2098
least_most zero e j f h = rw (zero-mul (2 ^ j)) (pow_pos 2098)
least_most (suc m) e j f h =
    let k = held false m e f in
    let w : suc m * up e * 2 ^ 1074 < 2 ^ 1024 * down e * 2 ^ 1074 = mul-lt-mul_of_pos_right k.greatest (pow_pos 1074) in
    let x : 2 ^ 1024 * down e * 2 ^ 1074 ≡ 2 ^ 2098 * down e = mul_right_comm (2 ^ 1024) (down e) (2 ^ 1074) in
    lt_of_mul-lt-mul_right (down e) (subst (λ (n : ℕ). n < 2 ^ 2098 * down e) h (subst (λ (n : ℕ). suc m * up e * 2 ^ 1074 < n) x w))

of_fin : (m : ℕ) (e : ℤ) → T (fits binary64 (fin false m e)) → (j : ℕ) × Units (fin false m e) m j
of_fin m e f =
    let k = few false m e f in
    let w = places e k.1 in
    let j = w.0 in
    let p : m * up e * 2 ^ 1074 ≡ m * 2 ^ j * down e = mul_assoc m (up e) (2 ^ 1074) ∙ ap (λ (x : ℕ). m * x) w.1 ∙ sym (mul_assoc m (2 ^ j) (down e)) in (
      j,
      record {
        value = (refl, p);
        is = sym (own false m e f) ∙ round_same binary64 false (m * up e) (down e) (m * 2 ^ j) (2 ^ 1074) (down_pos e) (pow_pos 1074) p;
        digits = k.0;
        most = least_most m e j f p;
      },
    )

-- ---- comparison
cross : (a b U V c w : ℕ) → 0 < w → 0 < c → a * w ≡ U * c → b * w ≡ V * c → a < b → U < V
cross a b U V c w p q h k l = lt_of_mul-lt-mul_right c (subst (λ (n : ℕ). n < V * c) h (subst (λ (n : ℕ). a * w < n) k (mul-lt-mul_of_pos_right l p)))

cross_le : (a b U V c w : ℕ) → 0 < w → 0 < c → a * w ≡ U * c → b * w ≡ V * c → b ≤ a → V ≤ U
cross_le a b U V c w p q h k l = go (dec_le V U)
  where
    go : Dec (V ≤ U) → V ≤ U
    go (yes y) = y
    go (no n) =
        let r : U * c < V * c = mul-lt-mul_of_pos_right (lt_of_not-le n) q in
        absurd (not-le_of_lt r (subst (λ (x : ℕ). x ≤ U * c) k (subst (λ (x : ℕ). b * w ≤ x) h (mul-le-mul_right w l))))

sides : (m : ℕ) (e : ℤ) (U : ℕ) (c : ℕ) → m * up e * 2 ^ 1074 ≡ U * down e → m * up e * c * 2 ^ 1074 ≡ U * (down e * c)
sides m e U c h = mul_right_comm (m * up e) c (2 ^ 1074) ∙ ap (λ (n : ℕ). n * c) h ∙ mul_assoc U (down e) c

sides' : (m : ℕ) (e : ℤ) (U : ℕ) (c : ℕ) → m * up e * 2 ^ 1074 ≡ U * down e → m * up e * c * 2 ^ 1074 ≡ U * (c * down e)
sides' m e U c h = sides m e U c h ∙ ap (λ (n : ℕ). U * n) (mul_comm (down e) c)

below : (x y : Float) (q j p i : ℕ) → Units x q j → Units y p i → lt x y ≡ true → q * 2 ^ j < p * 2 ^ i
unfolding lt
below nan y q j p i a b h = absurd a.value
below (inf s) y q j p i a b h = absurd a.value
below (fin s m e) nan q j p i a b h = absurd b.value
below (fin s m e) (inf t) q j p i a b h = absurd b.value
below (fin true m e) (fin t n d) q j p i a b h = absurd (true≢false a.value.0)
below (fin false m e) (fin true n d) q j p i a b h = absurd (true≢false b.value.0)
below (fin false m e) (fin false n d) q j p i a b h =
    cross (m * up e * down d) (n * up d * down e) (q * 2 ^ j) (p * 2 ^ i) (down e * down d) (2 ^ 1074) (pow_pos 1074) (mul-pos (down_pos e) (down_pos d))
    (sides m e (q * 2 ^ j) (down d) a.value.1) (sides' n d (p * 2 ^ i) (down e) b.value.1) (ltb-true (m * up e * down d) (n * up d * down e) h)

above : (x y : Float) (q j p i : ℕ) → Units x q j → Units y p i → lt x y ≡ false → p * 2 ^ i ≤ q * 2 ^ j
unfolding lt
above nan y q j p i a b h = absurd a.value
above (inf s) y q j p i a b h = absurd a.value
above (fin s m e) nan q j p i a b h = absurd b.value
above (fin s m e) (inf t) q j p i a b h = absurd b.value
above (fin true m e) (fin t n d) q j p i a b h = absurd (true≢false a.value.0)
above (fin false m e) (fin true n d) q j p i a b h = absurd (true≢false b.value.0)
above (fin false m e) (fin false n d) q j p i a b h =
    cross_le (m * up e * down d) (n * up d * down e) (q * 2 ^ j) (p * 2 ^ i) (down e * down d) (2 ^ 1074) (pow_pos 1074) (mul-pos (down_pos e) (down_pos d))
    (sides m e (q * 2 ^ j) (down d) a.value.1) (sides' n d (p * 2 ^ i) (down e) b.value.1) (ltb-false (m * up e * down d) (n * up d * down e) h)

-- ---- twice, and half
twice_sum : (a l U c : ℕ) → a * l ≡ U * c → (a + a) * l ≡ U * 2 * c
twice_sum a l U c h = omega (arith, h)

doubled : (s : Float) (q j : ℕ) → Units s q j → q * 2 ^ (j + 1) < 2 ^ 2098 → Units (s ⊕ s) q (j + 1)
unfolding add sum
doubled nan q j a b = absurd a.value
doubled (inf t) q j a b = absurd a.value
doubled (fin true m e) q j a b = absurd (true≢false a.value.0)
doubled (fin false m e) q j a b =
    let x = m * up e * down e in
    let k : x * 2 ^ 1074 ≡ q * 2 ^ j * (down e * down e) = sides m e (q * 2 ^ j) (down e) a.value.1 in
    let two : q * 2 ^ j * 2 ≡ q * 2 ^ (j + 1) = mul_assoc q (2 ^ j) 2 ∙ ap (λ (n : ℕ). q * n) (sym (pow-add 2 j 1)) in
    made (x + x) (down e * down e) q (j + 1) (mul-pos (down_pos e) (down_pos e)) a.digits b
    (twice_sum x (2 ^ 1074) (q * 2 ^ j) (down e * down e) k ∙ ap (λ (n : ℕ). n * (down e * down e)) two)

half_fact : (a l U d : ℕ) → a * l ≡ U * 2 * d → a * 1 * l ≡ U * (d * 2)
half_fact a l U d h = ap (λ (n : ℕ). n * l) (mul-one a) ∙ h ∙ mul_assoc U 2 d ∙ ap (λ (n : ℕ). U * n) (mul_comm 2 d)

halved : (s : Float) (q j : ℕ) → Units s q (j + 1) → Units (s ⊗ bits 0x3fe0000000000000) q j
unfolding mul of_bits
halved nan q j a = absurd a.value
halved (inf t) q j a = absurd a.value
halved (fin true m e) q j a = absurd (true≢false a.value.0)
halved (fin false m e) q j a =
    let two : q * 2 ^ (j + 1) ≡ q * 2 ^ j * 2 = ap (λ (n : ℕ). q * n) (pow-add 2 j 1) ∙ sym (mul_assoc q (2 ^ j) 2) in
    let less : q * 2 ^ j < 2 ^ 2098 = lt_of_le_of_lt (grow (q * 2 ^ j) (q * 2 ^ (j + 1)) two) a.most in
    made (m * up e * 1) (down e * 2) q j (mul-pos (down_pos e) (lit< tt)) a.digits less
    (half_fact (m * up e) (2 ^ 1074) (q * 2 ^ j) (down e) (a.value.1 ∙ ap (λ (n : ℕ). n * down e) two))
  where
    grow : (a b : ℕ) → b ≡ a * 2 → a ≤ b
    grow a b h = omega arith

-- ---- the difference of two of which one is at most twice the other
record Near (R S : ℕ) : Type 0 where
  pub digits : ℕ
  pub places : ℕ
  pub few : digits < 2 ^ 53
  pub is : digits * 2 ^ places ≡ R - S

sub_mul : (a b c : ℕ) → (a - b) * c ≡ a * c - b * c
sub_mul a b c = mul_comm (a - b) c ∙ mul-sub c a b ∙ two
  where
    two : c * a - c * b ≡ a * c - b * c
    two = rw (mul_comm c a, mul_comm c b)

near : (p i q j : ℕ) → p < 2 ^ 53 → q < 2 ^ 53 → q * 2 ^ j ≤ p * 2 ^ i → p * 2 ^ i < q * 2 ^ j * 2 → Near (p * 2 ^ i) (q * 2 ^ j)
near p i q j dp dq l u = go (dec_le j i)
  where
    less : (a q w : ℕ) → 0 < w → a * w < q * w * 2 → q < 2 ^ 53 → a - q < 2 ^ 53
    less a q w pw h k =
        let b : a < q * 2 = lt_of_mul-lt-mul_right w (subst (λ (n : ℕ). a * w < n) (mul_right_comm q w 2) h) in omega arith

    go : Dec (j ≤ i) → Near (p * 2 ^ i) (q * 2 ^ j)
    go (yes h) =
        let t = i - j in
        let e : t + j ≡ i = sub-add_cancel h in
        let w : p * 2 ^ t * 2 ^ j ≡ p * 2 ^ i = mul_assoc p (2 ^ t) (2 ^ j) ∙ ap (λ (n : ℕ). p * n) (sym (pow-add 2 t j)) ∙ ap (λ (n : ℕ). p * 2 ^ n) e in
        record {
          digits = p * 2 ^ t - q;
          places = j;
          few = less (p * 2 ^ t) q (2 ^ j) (pow_pos j) (subst (λ (n : ℕ). n < q * 2 ^ j * 2) (sym w) u) dq;
          is = sub_mul (p * 2 ^ t) q (2 ^ j) ∙ ap (λ (n : ℕ). n - q * 2 ^ j) w;
        }
    go (no h) =
        let g : i < j = lt_of_not-le h in
        let t = j - i in
        let e : t + i ≡ j = sub-add_cancel (le_of_lt g) in
        let w : q * 2 ^ t * 2 ^ i ≡ q * 2 ^ j = mul_assoc q (2 ^ t) (2 ^ i) ∙ ap (λ (n : ℕ). q * n) (sym (pow-add 2 t i)) ∙ ap (λ (n : ℕ). q * 2 ^ n) e in
        let small : (a b c : ℕ) → a < c → a - b < c = λ a b c k. omega arith in
        record {
          digits = p - q * 2 ^ t;
          places = i;
          few = small p (q * 2 ^ t) (2 ^ 53) dp;
          is = sub_mul p (q * 2 ^ t) (2 ^ i) ∙ ap (λ (n : ℕ). p * 2 ^ i - n) w;
        }

taken : (r s : Float) (p i q j : ℕ) → Units r p i → Units s q j → q * 2 ^ j ≤ p * 2 ^ i → p * 2 ^ i < q * 2 ^ j * 2
    → (n : Near (p * 2 ^ i) (q * 2 ^ j)) × Units (r ⊖ s) n.digits n.places
unfolding sub add neg sum
taken nan s p i q j a b l u = absurd a.value
taken (inf t) s p i q j a b l u = absurd a.value
taken (fin x m e) nan p i q j a b l u = absurd b.value
taken (fin x m e) (inf t) p i q j a b l u = absurd b.value
taken (fin true m e) (fin t n d) p i q j a b l u = absurd (true≢false a.value.0)
taken (fin false m e) (fin true n d) p i q j a b l u = absurd (true≢false b.value.0)
taken (fin false m e) (fin false n d) p i q j a b l u =
    let A = m * up e * down d in
    let B = n * up d * down e in
    let c = down e * down d in
    let z = near p i q j a.digits b.digits l u in
    let wa : A * 2 ^ 1074 ≡ p * 2 ^ i * c = sides m e (p * 2 ^ i) (down d) a.value.1 in
    let wb : B * 2 ^ 1074 ≡ q * 2 ^ j * c = sides' n d (q * 2 ^ j) (down e) b.value.1 in
    let le : B ≤ A = cross_le (p * 2 ^ i) (q * 2 ^ j) A B (2 ^ 1074) c (mul-pos (down_pos e) (down_pos d)) (pow_pos 1074) (sym wa) (sym wb) l in
    let most : z.digits * 2 ^ z.places < 2 ^ 2098 = lt_of_le_of_lt (smaller (p * 2 ^ i) (q * 2 ^ j) (z.digits * 2 ^ z.places) z.is) a.most in
    let h : (A - B) * 2 ^ 1074 ≡ z.digits * 2 ^ z.places * c =
    sub_mul A B (2 ^ 1074) ∙ both A B (p * 2 ^ i * c) (q * 2 ^ j * c) (2 ^ 1074) wa wb ∙ sym (sub_mul (p * 2 ^ i) (q * 2 ^ j) c) ∙ ap (λ (x : ℕ). x * c) (sym z.is) in
    (z, rw (le-ltb A B le) (made (A - B) c z.digits z.places (mul-pos (down_pos e) (down_pos d)) z.few most h))
  where
    smaller : (a b x : ℕ) → x ≡ a - b → x ≤ a
    smaller a b x h = omega arith

    both : (a b x y w : ℕ) → a * w ≡ x → b * w ≡ y → a * w - b * w ≡ x - y
    both a b x y w h k = rw (h, k)

-- ---- the law: what has the remainder's units is the remainder
is_rem : (v d r : Float) (p i q j u k : ℕ) → Units v p i → Units d q j → Units r u k → 0 < q * 2 ^ j → u * 2 ^ k ≡ p * 2 ^ i % (q * 2 ^ j) → r ≡ v ⊛ d
unfolding rem
is_rem nan d r p i q j u k a b c z h = absurd a.value
is_rem (inf t) d r p i q j u k a b c z h = absurd a.value
is_rem (fin x m e) nan r p i q j u k a b c z h = absurd b.value
is_rem (fin x m e) (inf t) r p i q j u k a b c z h = absurd b.value
is_rem (fin true m e) (fin t n d) r p i q j u k a b c z h = absurd (true≢false a.value.0)
is_rem (fin false m e) (fin true n d) r p i q j u k a b c z h = absurd (true≢false b.value.0)
is_rem (fin false m e) (fin false zero d) r p i q j u k a b c z h =
    let zero_is : 0 ≡ q * 2 ^ j * down d = sym (zero-mul (2 ^ 1074)) ∙ ap (λ (x : ℕ). x * 2 ^ 1074) (sym (zero-mul (up d))) ∙ b.value.1 in
    absurd (not-le_of_lt (mul-pos z (down_pos d)) (subst (λ (x : ℕ). x ≤ 0) zero_is (lit≤ tt)))
is_rem (fin false m e) (fin false (suc n) d) r p i q j u k a b c z h =
    let A = m * up e * down d in
    let B = suc n * up d * down e in
    let D = down e * down d in
    let pd : 0 < D = mul-pos (down_pos e) (down_pos d) in
    let wa : A * 2 ^ 1074 ≡ p * 2 ^ i * D = sides m e (p * 2 ^ i) (down d) a.value.1 in
    let wb : B * 2 ^ 1074 ≡ q * 2 ^ j * D = sides' (suc n) d (q * 2 ^ j) (down e) b.value.1 in
    let pb : 0 < B = mul-pos (mul-pos (zero-lt-suc n) (up_pos d)) (down_pos e) in
    let t : (p * 2 ^ i % (q * 2 ^ j)) * D ≡ (A % B) * 2 ^ 1074 =
    sym (mod_scale (p * 2 ^ i) (q * 2 ^ j) D z pd) ∙ same_mod (p * 2 ^ i * D) (A * 2 ^ 1074) (q * 2 ^ j * D) (B * 2 ^ 1074) (sym wa) (sym wb) ∙ mod_scale A B (2 ^ 1074) pb (pow_pos 1074) in
    let not_zero : eqb (suc n) 0 ≡ false = ne_eqb (suc n) 0 (suc-ne-zero n) in
    rw not_zero (c.is ∙ ap (λ (x : ℕ). round binary64 false x (2 ^ 1074)) h ∙ round_same binary64 false (p * 2 ^ i % (q * 2 ^ j)) (2 ^ 1074) (A % B) D (pow_pos 1074) pd t)

-- ---- the two loops: the divisor d doubled n times, at most v; and back
pub record Up (v d s : Float) (n : ℕ) : Type 0 where
  pub p : ℕ
  pub i : ℕ
  pub q : ℕ
  pub j : ℕ
  pub dividend : Units v p i
  pub divisor : Units d q j
  pub multiple : Units s q (j + n)
  pub some : 0 < q * 2 ^ j
  pub within : q * 2 ^ (j + n) ≤ p * 2 ^ i

pub record Down (v d r s : Float) (n : ℕ) : Type 0 where
  pub p : ℕ
  pub i : ℕ
  pub q : ℕ
  pub j : ℕ
  pub u : ℕ
  pub k : ℕ
  pub dividend : Units v p i
  pub divisor : Units d q j
  pub multiple : Units s q (j + n)
  pub rest : Units r u k
  pub some : 0 < q * 2 ^ j
  pub less : u * 2 ^ k < q * 2 ^ (j + n)
  pub same : u * 2 ^ k % (q * 2 ^ j) ≡ p * 2 ^ i % (q * 2 ^ j)

abbrev pub huge : Float
huge = bits 0x7fe0000000000000

huge_units : Units huge 1 2097
unfolding of_bits fits
huge_units = made_of
  where
    made_of : Units (fin false 1 (pos 1023)) 1 2097
    made_of = record {
      value = (refl, refl);
      is = sym (own false 1 (pos 1023) tt) ∙ round_same binary64 false (1 * 2 ^ 1023) 1 (1 * 2 ^ 2097) (2 ^ 1074) (lit< tt) (pow_pos 1074) refl;
      digits = lit< tt;
      most = lit< tt;
    }

-- a multiple's units
times_two : (q j n : ℕ) → q * 2 ^ (j + n) ≡ q * 2 ^ j * 2 ^ n
times_two q j n = ap (λ (x : ℕ). q * x) (pow-add 2 j n) ∙ sym (mul_assoc q (2 ^ j) (2 ^ n))

one_more : (j n : ℕ) → j + (n + 1) ≡ j + n + 1
one_more j n = omega arith

next_two : (q j n : ℕ) → q * 2 ^ (j + (n + 1)) ≡ q * 2 ^ (j + n) * 2
next_two q j n =
    ap (λ (x : ℕ). q * 2 ^ x) (one_more j n) ∙ times_two q (j + n) 1

pub few_turns : {v d s : Float} {n : ℕ} → Up v d s n → n < 2098
few_turns {n = n} a = go (dec_le 2098 n)
  where
    one : (x y : ℕ) → 0 < x → y ≤ x * y
    one x y h = subst (λ (z : ℕ). z ≤ x * y) (one-mul y) (mul-le-mul_right y h)

    go : Dec (2098 ≤ n) → n < 2098
    go (no h) = lt_of_not-le h
    go (yes h) =
        let l : 2 ^ 2098 ≤ a.q * 2 ^ (a.j + n) = le_trans (pow_mono h) (subst (λ (z : ℕ). 2 ^ n ≤ z) (sym (times_two a.q a.j n)) (one (a.q * 2 ^ a.j) (2 ^ n) a.some)) in
        absurd (not-le_of_lt a.multiple.most l)

both_true : (a b : Bool) → (a && not b) ≡ true → (a ≡ true) × (b ≡ false)
both_true true true h = cc
both_true true false h = (refl, refl)
both_true false b h = cc

not_both : (a b : Bool) → (a && not b) ≡ false → (a ≡ false) ⊎ ((a ≡ true) × (b ≡ true))
not_both true true h = inr (refl, refl)
not_both true false h = cc
not_both false b h = inl refl

room : (s : Float) (q j : ℕ) → Units s q j → lt s huge ≡ true → q * 2 ^ (j + 1) < 2 ^ 2098
room s q j a h = subst (λ (x : ℕ). x < 2 ^ 2098) (sym (next_two q j 0 ∙ ap (λ (x : ℕ). q * 2 ^ x * 2) (add-zero j))) (mul-lt-mul_of_pos_right (below s huge q j 1 2097 a huge_units h) (lit< tt))

twice : {v d s : Float} {n : ℕ} → (a : Up v d s n) → lt s huge ≡ true → Units (s ⊕ s) a.q (a.j + (n + 1))
twice {s = s} {n = n} a h = subst (Units (s ⊕ s) a.q) (sym (one_more a.j n)) (doubled s a.q (a.j + n) a.multiple (room s a.q (a.j + n) a.multiple h))

pub go_up : {v d s : Float} {n : ℕ} → Up v d s n → (lt s huge && not (lt v (s ⊕ s))) ≡ true → Up v d (s ⊕ s) (n + 1)
go_up {v = v} {s = s} {n = n} a h =
    let t = both_true (lt s huge) (lt v (s ⊕ s)) h in
    let m = twice a t.0 in
    record { p = a.p; i = a.i; q = a.q; j = a.j; dividend = a.dividend; divisor = a.divisor; multiple = m; some = a.some; within = above v (s ⊕ s) a.p a.i a.q (a.j + (n + 1)) a.dividend m t.1 }

-- at the top twice the multiple is above v
top : {v d s : Float} {n : ℕ} → (a : Up v d s n) → (lt s huge && not (lt v (s ⊕ s))) ≡ false → a.p * 2 ^ a.i < a.q * 2 ^ (a.j + n) * 2
top {v = v} {s = s} {n = n} a h = go (not_both (lt s huge) (lt v (s ⊕ s)) h)
  where
    go : (lt s huge ≡ false) ⊎ ((lt s huge ≡ true) × (lt v (s ⊕ s) ≡ true)) → a.p * 2 ^ a.i < a.q * 2 ^ (a.j + n) * 2
    go (inl f) = lt_of_lt_of_le a.dividend.most (mul-le-mul_right 2 (above s huge a.q (a.j + n) 1 2097 a.multiple huge_units f))
    go (inr t) = subst (λ (x : ℕ). a.p * 2 ^ a.i < x) (next_two a.q a.j n) (below v (s ⊕ s) a.p a.i a.q (a.j + (n + 1)) a.dividend (twice a t.0) t.1)

-- a multiple taken away leaves the remainder
mod_less : (R D t : ℕ) → D * t ≤ R → (R - D * t) % D ≡ R % D
mod_less R D t h = sym (add-mul-mod_self_right (R - D * t) t D) ∙ ap (λ (x : ℕ). x % D) (ap (λ (x : ℕ). R - D * t + x) (mul_comm t D) ∙ sub-add_cancel h)

less_than : (R S x : ℕ) → x ≡ R - S → R < S * 2 → 0 < S → x < S
less_than R S x h k l = omega arith

pub turn_down : {v d s : Float} {n : ℕ} → Up v d s n → (lt s huge && not (lt v (s ⊕ s))) ≡ false → Down v d (v ⊖ s) s n
turn_down {v = v} {s = s} {n = n} a h =
    let S = a.q * 2 ^ (a.j + n) in
    let t = taken v s a.p a.i a.q (a.j + n) a.dividend a.multiple a.within (top a h) in
    let e : S ≡ a.q * 2 ^ a.j * 2 ^ n = times_two a.q a.j n in
    let some : 0 < S = subst (λ (x : ℕ). 0 < x) (sym e) (mul-pos a.some (pow_pos n)) in
    record {
      p = a.p;
      i = a.i;
      q = a.q;
      j = a.j;
      u = t.0.digits;
      k = t.0.places;
      dividend = a.dividend;
      divisor = a.divisor;
      multiple = a.multiple;
      rest = t.1;
      some = a.some;
      less = less_than (a.p * 2 ^ a.i) S (t.0.digits * 2 ^ t.0.places) t.0.is (top a h) some;
      same =
          ap (λ (x : ℕ). x % (a.q * 2 ^ a.j)) (t.0.is ∙ ap (λ (x : ℕ). a.p * 2 ^ a.i - x) e)
          ∙ mod_less (a.p * 2 ^ a.i) (a.q * 2 ^ a.j) (2 ^ n) (subst (λ (x : ℕ). x ≤ a.p * 2 ^ a.i) e a.within);
    }

pub go_down : {v d r s : Float} {n : ℕ} → Down v d r s (n + 1) → Down v d (cond (lt r (s ⊗ bits 0x3fe0000000000000)) r (r ⊖ s ⊗ bits 0x3fe0000000000000)) (s ⊗ bits 0x3fe0000000000000) n
go_down {v} {d} {r} {s} {n} a = go (lt r h) refl
  where
    h : Float
    h = s ⊗ bits 0x3fe0000000000000

    m : Units h a.q (a.j + n)
    m = halved s a.q (a.j + n) (subst (Units s a.q) (one_more a.j n) a.multiple)

    S : ℕ
    S = a.q * 2 ^ (a.j + n)

    e : a.q * 2 ^ (a.j + n) ≡ a.q * 2 ^ a.j * 2 ^ n
    e = times_two a.q a.j n

    go : (b : Bool) → lt r h ≡ b → Down v d (cond b r (r ⊖ h)) h n
    go true t = record {
      p = a.p;
      i = a.i;
      q = a.q;
      j = a.j;
      u = a.u;
      k = a.k;
      dividend = a.dividend;
      divisor = a.divisor;
      multiple = m;
      rest = a.rest;
      some = a.some;
      less = below r h a.u a.k a.q (a.j + n) a.rest m t;
      same = a.same;
    }
    go false t =
        let l : a.q * 2 ^ (a.j + n) ≤ a.u * 2 ^ a.k = above r h a.u a.k a.q (a.j + n) a.rest m t in
        let g : a.u * 2 ^ a.k < a.q * 2 ^ (a.j + n) * 2 = subst (λ (x : ℕ). a.u * 2 ^ a.k < x) (next_two a.q a.j n) a.less in
        let w = taken r h a.u a.k a.q (a.j + n) a.rest m l g in
        let some : 0 < a.q * 2 ^ (a.j + n) = subst (λ (x : ℕ). 0 < x) (sym (times_two a.q a.j n)) (mul-pos a.some (pow_pos n)) in
        record {
          p = a.p;
          i = a.i;
          q = a.q;
          j = a.j;
          u = w.0.digits;
          k = w.0.places;
          dividend = a.dividend;
          divisor = a.divisor;
          multiple = m;
          rest = w.1;
          some = a.some;
          less = less_than (a.u * 2 ^ a.k) (a.q * 2 ^ (a.j + n)) (w.0.digits * 2 ^ w.0.places) w.0.is g some;
          same =
              ap (λ (x : ℕ). x % (a.q * 2 ^ a.j)) (w.0.is ∙ ap (λ (x : ℕ). a.u * 2 ^ a.k - x) (times_two a.q a.j n))
              ∙ mod_less (a.u * 2 ^ a.k) (a.q * 2 ^ a.j) (2 ^ n) (subst (λ (x : ℕ). x ≤ a.u * 2 ^ a.k) (times_two a.q a.j n) l)
              ∙ a.same;
        }

-- the first multiple is the divisor itself
pub start : (v d : Float) → T (fits binary64 v) → T (fits binary64 d) → lt (bits 0) d ≡ true → lt v d ≡ false → lt v (bits 0x7ff0000000000000) ≡ true → Up v d d 0
unfolding lt of_bits fits
start nan d f g p h k = absurd (true≢false (sym k))
start (inf false) d f g p h k = absurd (true≢false (sym k))
start (inf true) nan f g p h k = absurd (true≢false (sym p))
start (inf true) (inf true) f g p h k = absurd (true≢false (sym p))
start (inf true) (inf false) f g p h k = absurd (true≢false h)
start (inf true) (fin t n d) f g p h k = absurd (true≢false h)
start (fin s m e) nan f g p h k = absurd (true≢false (sym p))
start (fin s m e) (inf true) f g p h k = absurd (true≢false (sym p))
start (fin s m e) (inf false) f g p h k = absurd (true≢false h)
start (fin s m e) (fin true n d) f g p h k = absurd (true≢false (sym p))
start (fin true m e) (fin false n d) f g p h k =
    let w : 0 * down d < n * up d * 1 = ltb-true (0 * down d) (n * up d * 1) p in
    let some : 0 < n * up d * down e = mul-pos (none (down d) (n * up d) w) (down_pos e) in
    absurd (not-le_of_lt some (sum_none (m * up e * down d) (n * up d * down e) (ltb-false 0 (m * up e * down d + n * up d * down e) h)))
  where
    none : (a b : ℕ) → 0 * a < b * 1 → 0 < b
    none a b h = omega (arith, h)

    sum_none : (a b : ℕ) → a + b ≤ 0 → b ≤ 0
    sum_none a b h = omega arith
start (fin false m e) (fin false n d) f g p h k =
    let a = of_fin m e f in
    let b = of_fin n d g in
    let z = of_fin 0 (pos 0) tt in
    let w : 0 * 2 ^ z.0 < n * 2 ^ b.0 = below (fin false 0 (pos 0)) (fin false n d) 0 z.0 n b.0 z.1 b.1 (unfold lt in p) in
    let none : b.0 ≡ b.0 + 0 = sym (add-zero b.0) in
    record {
      p = m;
      i = a.0;
      q = n;
      j = b.0;
      dividend = a.1;
      divisor = b.1;
      multiple = subst (Units (fin false n d) n) none b.1;
      some = subst (λ (x : ℕ). x < n * 2 ^ b.0) (zero-mul (2 ^ z.0)) w;
      within = subst (λ (x : ℕ). n * 2 ^ x ≤ m * 2 ^ a.0) none (above (fin false m e) (fin false n d) m a.0 n b.0 a.1 b.1 (unfold lt in h));
    }

pub at_bottom : {v d r s : Float} → Down v d r s 0 → r ≡ v ⊛ d
at_bottom {v} {d} {r} {s} a =
    let l : a.u * 2 ^ a.k < a.q * 2 ^ a.j = subst (λ (x : ℕ). a.u * 2 ^ a.k < a.q * 2 ^ x) (add-zero a.j) a.less in
    is_rem v d r a.p a.i a.q a.j a.u a.k a.dividend a.divisor a.rest a.some (sym (mod-eq_of_lt l) ∙ a.same)

-- ---- the signs, and what has no remainder
pub no_size : (v d : Float) → lt (bits 0) d ≡ true → lt v d ≡ false → lt v (bits 0x7ff0000000000000) ≡ false → nan ≡ v ⊛ d
unfolding lt of_bits rem
no_size nan d p h k = refl
no_size (inf s) d p h k = refl
no_size (fin s m e) d p h k = absurd (true≢false k)

pub no_divisor : (v d : Float) → lt (bits 0) d ≡ false → lt d (bits 0) ≡ false → nan ≡ v ⊛ d
unfolding lt of_bits rem
no_divisor nan d p h = refl
no_divisor (inf s) d p h = refl
no_divisor (fin s m e) nan p h = refl
no_divisor (fin s m e) (inf true) p h = absurd (true≢false h)
no_divisor (fin s m e) (inf false) p h = absurd (true≢false p)
no_divisor (fin s m e) (fin t zero d) p h = refl
no_divisor (fin s m e) (fin false (suc n) d) p h =
    absurd (not-le_of_lt (mul-pos (zero-lt-suc n) (up_pos d)) (none (down d) (suc n * up d) (ltb-false (0 * down d) (suc n * up d * 1) p)))
  where
    none : (a b : ℕ) → b * 1 ≤ 0 * a → b ≤ 0
    none a b h = omega (arith, h)
no_divisor (fin s m e) (fin true (suc n) d) p h =
    absurd (not-le_of_lt (mul-pos (zero-lt-suc n) (up_pos d)) (none (down d) (suc n * up d) (ltb-false 0 (suc n * up d * 1 + 0 * down d) h)))
  where
    none : (a b : ℕ) → b * 1 + 0 * a ≤ 0 → b ≤ 0
    none a b h = omega (arith, h)

pub of_neg : (v d : Float) → v ⊛ neg d ≡ v ⊛ d
unfolding rem neg
of_neg nan d = refl
of_neg (inf s) d = refl
of_neg (fin s m e) nan = refl
of_neg (fin s m e) (inf t) = refl
of_neg (fin s m e) (fin t n d) = refl

pub neg_of : (v d : Float) → neg (neg v ⊛ d) ≡ v ⊛ d
unfolding rem neg
neg_of nan d = refl
neg_of (inf s) d = refl
neg_of (fin true m e) nan = refl
neg_of (fin false m e) nan = refl
neg_of (fin true m e) (inf t) = refl
neg_of (fin false m e) (inf t) = refl
neg_of (fin s m e) (fin t zero d) = refl
neg_of (fin true m e) (fin t (suc n) d) =
    let not_zero : eqb (suc n) 0 ≡ false = ne_eqb (suc n) 0 (suc-ne-zero n) in
    rw not_zero (neg_round binary64 false (m * up e * down d % (suc n * up d * down e)) (down e * down d))
neg_of (fin false m e) (fin t (suc n) d) =
    let not_zero : eqb (suc n) 0 ≡ false = ne_eqb (suc n) 0 (suc-ne-zero n) in
    rw not_zero (neg_round binary64 true (m * up e * down d % (suc n * up d * down e)) (down e * down d))

pub neg_positive : (d : Float) → lt d (bits 0) ≡ true → lt (bits 0) (neg d) ≡ true
unfolding lt of_bits neg
neg_positive nan h = h
neg_positive (inf true) h = refl
neg_positive (inf false) h = h
neg_positive (fin false n d) h = absurd (none (down d) (n * up d) (ltb-true (n * up d * 1) (0 * down d) h))
  where
    none : (a b : ℕ) → b * 1 < 0 * a → ⊥
    none a b h = omega (arith, h)
neg_positive (fin true n d) h = ap (λ (x : ℕ). ltb x (n * up d * 1)) (zero-mul (down d)) ∙ ap (λ (x : ℕ). ltb 0 x) (sym (add-zero (n * up d * 1)) ∙ ap (λ (x : ℕ). n * up d * 1 + x) (sym (zero-mul (down d)))) ∙ h

pub across : (v d : Float) → lt (neg d) v ≡ false → lt (neg v) d ≡ false
unfolding lt neg
across nan d h = refl
across (inf s) nan h = refl
across (inf true) (inf true) h = h
across (inf true) (inf false) h = h
across (inf false) (inf true) h = h
across (inf false) (inf false) h = h
across (inf true) (fin t n d) h = refl
across (inf false) (fin t n d) h = h
across (fin s m e) nan h = refl
across (fin true m e) (inf t) h = h
across (fin false m e) (inf t) h = h
across (fin true m e) (fin true n d) h = h
across (fin true m e) (fin false n d) h = h
across (fin false m e) (fin true n d) h = h
across (fin false m e) (fin false n d) h = subst (λ (x : ℕ). ltb 0 x ≡ false) (add_comm (n * up d * down e) (m * up e * down d)) h

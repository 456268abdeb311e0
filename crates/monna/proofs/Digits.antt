-- Laws of the digit maps, in the form in which the loops' proofs ask them: what is left to do, done to the present state, gives the answer t.
-- Beside them what the definitions mean: `digits_value`, `valuation_divides`. Assumes nothing.
use Rattle.std.proofs.Common.{◌≡◌, ℕ, zero, suc, ◌+◌, ◌-◌, ◌*◌, ◌/◌, ◌%◌, ◌^◌, ◌<◌, ◌≤◌, Bool, true, false, eqb, List, [], ◌∷◌, sym, refl, ap, ◌∙◌, le_trans, mod-lt, zero-lt-suc, mul-le-mul, one-mul, pow-suc, div-add-mod', zero-mul, mul_right_comm, add-one, arith, lit<, eq-eqb, ne_eqb, eqb-true}
use native.Mathlib.Nat.{pow-zero, div-lt_self, div-add-mod, pow-le-pow_left, pow-le-pow_right, sub-zero}
use borrow.Author.Tests.{eqb-false}
use lib.Ieee.{Float, to_unsigned}
use Rattle.laws.proofs.Numbers.{sub_step}
use Rattle.float.specs.Ops.{◌⊕◌, ◌⊖◌, ◌⊗◌, ◌⊘◌, floor_of, raised, of_nat}
use Rattle.monna.specs.Digits.{Base, digits, placed, clamp_of, inverse_of, digits_added, times, valuation, gap}

smaller : (p v : ℕ) → 2 ≤ p → suc v / p ≤ v
smaller p v h = let l : suc v / p < suc v = div-lt_self (zero-lt-suc v) h in omega arith

-- ---- the Monna map

fuel : (p k l v : ℕ) → 2 ≤ p → v ≤ k → v ≤ l → digits p k v ≡ digits p l v
unfolding digits
fuel p zero zero v h a b = refl
fuel p zero (suc l) zero h a b = refl
fuel p zero (suc l) (suc v) h a b = absurd (omega arith)
fuel p (suc k) zero zero h a b = refl
fuel p (suc k) zero (suc v) h a b = absurd (omega arith)
fuel p (suc k) (suc l) zero h a b = refl
fuel p (suc k) (suc l) (suc v) h a b =
    let s = smaller p v h in
    ap (λ t. suc v % p ∷ t) (fuel p k l (suc v / p) h (omega arith) (omega arith))

pub record Placing (p val : ℕ) (base res t : Float) : Type 0 where
  pub gives : placed p (digits p val val) base res ≡ t

pub place : {p : ℕ} (val : ℕ) {base res t : Float} (q d : Float) → Base p → 0 < val → q ≡ of_nat p → d ≡ of_nat (val % p) → Placing p val base res t
    → Placing p (val / p) (base ⊘ q) (res ⊕ d ⊗ base) t
unfolding digits placed
place zero q d b h e f l = absurd (omega arith)
place {p = p} (suc v) q d b h e f l =
    record { gives = rw (e, f, fuel p (suc v / p) v (suc v / p) b.least (omega arith) (smaller p v b.least)) l.gives }

pub all_placed : {p : ℕ} (val : ℕ) {base res t : Float} → val ≤ 0 → Placing p val base res t → res ≡ t
unfolding digits placed
all_placed zero h l = l.gives
all_placed (suc v) h l = absurd (omega arith)

-- the number that digits in base p stand for, lowest first
pub value : ℕ → List ℕ → ℕ
value p [] = 0
value p (d ∷ ds) = d + p * value p ds

pub digits_value : (p k v : ℕ) → 2 ≤ p → v ≤ k → value p (digits p k v) ≡ v
unfolding digits value
digits_value p zero zero h l = refl
digits_value p zero (suc v) h l = absurd (omega arith)
digits_value p (suc k) zero h l = refl
digits_value p (suc k) (suc v) h l =
    let s = smaller p v h in
    let e = digits_value p k (suc v / p) h (omega arith) in
    rw e (omega (arith, div-add-mod (suc v) p))

-- ---- its inverse

pub record Taking (n p : ℕ) (x : Float) (factor val t : ℕ) : Type 0 where
  pub gives : digits_added n p x factor val ≡ t

pub take_start : (n p : ℕ) (x : Float) {y : Float} → y ≡ clamp_of x → Taking (n - 0) p y 1 0 (inverse_of x p n)
unfolding inverse_of
take_start n p x e = record { gives = rw (e, sub-zero n) }

pub take_one : {n i p : ℕ} {x : Float} {factor val t : ℕ} (q w f : Float) (d : ℕ) → i < n → q ≡ of_nat p → w ≡ floor_of (x ⊗ q) → d ≡ to_unsigned 64 w → f ≡ of_nat d → Taking (n - i) p x factor val t
    → Taking (n - (i + 1)) p (x ⊗ q ⊖ f) (factor * p) (val + d % p * factor) t
unfolding digits_added
take_one {n = n} {i = i} q w f d h e v g k l = record { gives = rw (k, g, v, e) (rw (sub_step i n h) at l.gives) }

pub all_taken : {n i p : ℕ} {x : Float} {factor val t : ℕ} → n ≤ i → Taking (n - i) p x factor val t → val ≡ t
unfolding digits_added
all_taken {n = n} {i = i} h l = let z : n - i ≡ 0 = omega arith in rw z at l.gives

-- 7^16
pub power_bound : (p i : ℕ) → Base p → i ≤ 16 → p ^ i ≤ 33232930569601
power_bound p i b h =
    let m = pow-le-pow_left b.greatest i in
    le_trans m (pow-le-pow_right (lit< tt) h)

pub power_more : (p i : ℕ) → p ^ i * p ≡ p ^ (i + 1)
power_more p i = rw add-one (sym (pow-suc p i))

-- 7^16 × 6
pub digit_bound : (p i d f : ℕ) → Base p → i ≤ 16 → f ≡ p ^ i → d % p * f ≤ 199397583417606
digit_bound p i d f b h e =
    let l = mod-lt d {m = p} (omega (arith, b.least)) in
    let s : d % p ≤ 6 = omega (arith, b.greatest) in
    rw e (mul-le-mul s (power_bound p i b h))

pub factor_bound : (p i f : ℕ) → Base p → i < 16 → f ≡ p ^ i → f * p ≤ 33232930569601
factor_bound p i f b h e = rw (e, power_more p i) (power_bound p (i + 1) b (omega arith))

-- ---- the p-adic distance

pub gap_pos : (a b : ℕ) → (a ≡ b → ⊥) → 0 < gap a b
gap_pos a b h = omega arith

quotient_pos : (q p r d : ℕ) → q * p + r ≡ d → r ≡ 0 → 0 < d → 0 < q
quotient_pos zero p r d e z h = absurd (omega (arith, zero-mul p))
quotient_pos (suc q) p r d e z h = zero-lt-suc q

pub still : (p d : ℕ) → d % p ≡ 0 → 0 < d → 0 < d / p
still p d z h = quotient_pos (d / p) p (d % p) d (div-add-mod' d p) z h

fuel_times : (k l p d : ℕ) (b : Bool) → 2 ≤ p → 0 < d → d ≤ k → d ≤ l → b ≡ eqb (d % p) 0 → times k b p d ≡ times l b p d
unfolding times
fuel_times zero l p d b h s a c e = absurd (omega arith)
fuel_times (suc k) zero p d b h s a c e = absurd (omega arith)
fuel_times (suc k) (suc l) p d false h s a c e = refl
fuel_times (suc k) (suc l) p d true h s a c e =
    let w : d / p < d = div-lt_self s h in
    ap suc (fuel_times k l p (d / p) (eqb (d / p % p) 0) h (still p d (eqb-true _ _ (sym e)) s) (omega arith) (omega arith) refl)

pub record Counting (p d : ℕ) (q power t : Float) : Type 0 where
  pub gives : raised q (valuation p d) power ≡ t

valuation_more : (p d : ℕ) → 2 ≤ p → 0 < d → d % p ≡ 0 → valuation p d ≡ suc (valuation p (d / p))
unfolding valuation times
valuation_more p zero h s z = absurd (omega arith)
valuation_more p (suc d) h s z =
    rw (eq-eqb (suc d % p) 0 z) (ap suc (fuel_times d (suc d / p) p (suc d / p) _ h (still p (suc d) z s) (smaller p d h) (omega arith) refl))

valuation_done : (p d : ℕ) → (d % p ≡ 0 → ⊥) → valuation p d ≡ 0
unfolding valuation times
valuation_done p zero z = refl
valuation_done p (suc d) z = rw (ne_eqb (suc d % p) 0 z)

pub count : {p d : ℕ} {q power t : Float} → Base p → 0 < d → d % p ≡ 0 → Counting p d q power t → Counting p (d / p) q (power ⊗ q) t
unfolding raised
count {p = p} {d = d} b s z l = record { gives = rw (valuation_more p d b.least s z) at l.gives }

pub all_counted : {p d : ℕ} {q power t : Float} → (d % p ≡ 0 → ⊥) → Counting p d q power t → power ≡ t
unfolding raised
all_counted {p = p} {d = d} z l = rw (valuation_done p d z) at l.gives

-- p divides d valuation p d times, and no more: d is p^v times an m that p does not divide
pub record Divides (p d v : ℕ) : Type 0 where
  pub rest : ℕ
  pub is : d ≡ p ^ v * rest
  pub done : rest % p ≡ 0 → ⊥

divides_more : (p d v : ℕ) → d % p ≡ 0 → Divides p (d / p) v → Divides p d (suc v)
divides_more p d v z r =
    let e : d / p * p ≡ d = omega (arith, div-add-mod' d p) in
    record { rest = r.rest; is = sym e ∙ ap (λ t. t * p) r.is ∙ rw (pow-suc p v, mul_right_comm (p ^ v) r.rest p); done = r.done }

times_divides : (k p d : ℕ) (b : Bool) → 2 ≤ p → 0 < d → d ≤ k → b ≡ eqb (d % p) 0 → Divides p d (times k b p d)
unfolding times
times_divides zero p d b h s a e = absurd (omega arith)
times_divides (suc k) p d false h s a e =
    record { rest = d; is = rw (pow-zero p) (sym (one-mul d)); done = eqb-false (d % p) 0 (sym e) }
times_divides (suc k) p d true h s a e =
    let z = eqb-true (d % p) 0 (sym e) in
    let w : d / p < d = div-lt_self s h in
    divides_more p d (times k (eqb (d / p % p) 0) p (d / p)) z (times_divides k p (d / p) (eqb (d / p % p) 0) h (still p d z s) (omega arith) refl)

pub valuation_divides : (p d : ℕ) → 2 ≤ p → 0 < d → Divides p d (valuation p d)
unfolding valuation
valuation_divides p d h s = times_divides d p d (eqb (d % p) 0) h s (omega arith) refl

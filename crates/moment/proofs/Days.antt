-- The formula of `date_of` gives the calendar's dates. Assumes nothing.
use Rattle.std.proofs.Common.{◌≡◌, ℕ, zero, suc, ◌+◌, ◌-◌, ◌*◌, ◌/◌, ◌%◌, ◌<◌, ◌≤◌, min, Bool, true, false, cond, not, ◌&&◌, eqb, ltb, sym, refl, ap, ◌∙◌, add_assoc, arith, lit<, ltb-false, ltb-true, le-ltb, lt-ltb, eqb-true}
use Rattle.laws.proofs.Tests.{and_left, and_right}
use Rattle.moment.specs.Calendar.{leap, month_length, tomorrow_in, tomorrow, date_of, months_length, ordinal_of}
use Rattle.moment.specs.declared.calendar.Date.{Date}

-- ---- a test of every number below n, by computation
all_below : ℕ → (ℕ → Bool) → Bool
all_below zero p = true
all_below (suc n) p = p n && all_below n p

-- ---- four years from a March on: the r-th of their 1,461 days, with years counted from 0
turn_of : ℕ → ℕ
turn_of r = min (r / 365) 3

doy_of : ℕ → ℕ
doy_of r = r - 365 * turn_of r

mp_of : ℕ → ℕ
mp_of r = (5 * doy_of r + 2) / 153

day_of : ℕ → ℕ
day_of r = doy_of r - (153 * mp_of r + 2) / 5 + 1

-- a day from March to December, and one of January or February
abbrev spring : ℕ → Date
spring r = record { year = turn_of r; month = mp_of r + 3; day = day_of r }

abbrev winter : ℕ → Date
winter r = record { year = turn_of r + 1; month = mp_of r - 9; day = day_of r }

within : ℕ → Date
within r = cond (ltb (mp_of r) 10) (spring r) (winter r)

-- from the year b on
from : ℕ → Date → Date
from b d = record { year = b + d.year; month = d.month; day = d.day }

-- the code's formula
formula : ℕ → Date
formula n = from (1956 + n / 1461 * 4) (within (n % 1461))

same : Date → Date → Bool
same d e = eqb d.year e.year && (eqb d.month e.month && eqb d.day e.day)

fourth : ℕ → Bool
fourth y = eqb (y % 4) 0

same_bool : Bool → Bool → Bool
same_bool true b = b
same_bool false b = not b

-- the day after, within the four years; and no year is beyond the fourth
next_ok : ℕ → Bool
next_ok r = same (tomorrow_in (fourth (within r).year) (within r)) (within (r + 1))

year_ok : ℕ → Bool
year_ok r = ltb (within r).year 5

-- among the years from 1956 to 2096 every fourth is a leap year
leap_ok : ℕ → Bool
leap_ok q = all_below 5 (λ (y : ℕ). same_bool (leap (1956 + q * 4 + y)) (fourth y))

all_next : all_below 1460 next_ok ≡ true
unfolding tomorrow_in month_length all_below next_ok same within mp_of doy_of turn_of day_of fourth
all_next = refl

all_years : all_below 1461 year_ok ≡ true
unfolding all_below year_ok within mp_of doy_of turn_of day_of
all_years = refl

all_leaps : all_below 35 leap_ok ≡ true
unfolding all_below leap leap_ok same_bool fourth
all_leaps = refl

-- ---- what the tests say
at : (n : ℕ) (p : ℕ → Bool) → all_below n p ≡ true → (k : ℕ) → k < n → p k ≡ true
unfolding all_below
at zero p h k l = absurd (not_lt_zero k l)
  where
    not_lt_zero : (k : ℕ) → k < 0 → ⊥
    not_lt_zero k l = omega arith
at (suc n) p h k l = go (ltb k n) refl (at n p (and_right (p n) (all_below n p) h) k)
  where
    go : (b : Bool) → ltb k n ≡ b → (k < n → p k ≡ true) → p k ≡ true
    go true e f = f (ltb-true k n e)
    go false e f = let q : k ≡ n = omega (arith, ltb-false k n e) in ap p q ∙ and_left (p n) (all_below n p) h

same_is : (d e : Date) → same d e ≡ true → d ≡ e
unfolding same
same_is d e h =
    let a = eqb-true d.year e.year (and_left (eqb d.year e.year) (eqb d.month e.month && eqb d.day e.day) h) in
    let r = and_right (eqb d.year e.year) (eqb d.month e.month && eqb d.day e.day) h in
    let b = eqb-true d.month e.month (and_left (eqb d.month e.month) (eqb d.day e.day) r) in
    let c = eqb-true d.day e.day (and_right (eqb d.month e.month) (eqb d.day e.day) r) in
    date a b c
  where
    date : {y z m n a b : ℕ} → y ≡ z → m ≡ n → a ≡ b → ◌≡◌ {A = Date} (record { year = y; month = m; day = a }) (record { year = z; month = n; day = b })
    date p q r = cc

same_bool_lem : (a b : Bool) → same_bool a b ≡ true → a ≡ b
unfolding same_bool
same_bool_lem true b h = sym h
same_bool_lem false true h = h
same_bool_lem false false h = refl

leap_fourth : (q y : ℕ) → q < 35 → y < 5 → leap (1956 + q * 4 + y) ≡ fourth y
unfolding leap_ok
leap_fourth q y h l = same_bool_lem (leap (1956 + q * 4 + y)) (fourth y) (at 5 (λ (z : ℕ). same_bool (leap (1956 + q * 4 + z)) (fourth z)) (at 35 leap_ok all_leaps q h) y l)

-- the day after, from another year on
from_next : (l : Bool) (b : ℕ) (d : Date) → tomorrow_in l (from b d) ≡ from b (tomorrow_in l d)
unfolding tomorrow_in from
from_next l b d = go (ltb d.day (month_length l d.month)) (ltb d.month 12)
  where
    go : (s t : Bool) → cond s (record { year = b + d.year; month = d.month; day = d.day + 1 }) (cond t (record { year = b + d.year; month = d.month + 1; day = 1 }) (record { year = b + d.year + 1; month = 1; day = 1 }))
        ≡ from b (cond s (record { year = d.year; month = d.month; day = d.day + 1 }) (cond t (record { year = d.year; month = d.month + 1; day = 1 }) (record { year = d.year + 1; month = 1; day = 1 })))
    go true t = refl
    go false true = refl
    go false false = ap (λ (y : ℕ). record { year = y; month = 1; day = 1 }) (add_assoc b d.year 1)

inside : (q r : ℕ) → q < 35 → r < 1460 → tomorrow (from (1956 + q * 4) (within r)) ≡ from (1956 + q * 4) (within (r + 1))
unfolding from next_ok year_ok
inside q r h l =
    let b = 1956 + q * 4 in
    ap (λ (x : Bool). tomorrow_in x (from b (within r))) (leap_fourth q (within r).year h (ltb-true (within r).year 5 (at 1461 year_ok all_years r (omega arith))))
    ∙ from_next (fourth (within r).year) b (within r)
    ∙ ap (from b) (same_is (tomorrow_in (fourth (within r).year) (within r)) (within (r + 1)) (at 1460 next_ok all_next r l))

-- from the last of the four years' days to the next four
over : (q : ℕ) → q < 35 → tomorrow (from (1956 + q * 4) (within 1460)) ≡ from (1956 + (q + 1) * 4) (within 0)
unfolding from within mp_of doy_of turn_of day_of fourth tomorrow_in month_length
over q h =
    let l : leap (1956 + q * 4 + 4) ≡ true = leap_fourth q 4 h (lit< tt) in
    let y : 1956 + q * 4 + 4 ≡ 1956 + (q + 1) * 4 + 0 = omega arith in
    ap (λ (x : Bool). tomorrow_in x (record { year = 1956 + q * 4 + 4; month = 2; day = 29 })) l
    ∙ ap march y
  where
    march : ℕ → Date
    march y = record { year = y; month = 3; day = 1 }

both : {a b c d : ℕ} → a ≡ b → c ≡ d → from (1956 + a * 4) (within c) ≡ from (1956 + b * 4) (within d)
both p r = cc

step : (n : ℕ) → n < 51134 → tomorrow (formula n) ≡ formula (suc n)
unfolding formula
step n h = go (ltb (n % 1461) 1460) refl
  where
    go : (b : Bool) → ltb (n % 1461) 1460 ≡ b → tomorrow (from (1956 + n / 1461 * 4) (within (n % 1461))) ≡ from (1956 + suc n / 1461 * 4) (within (suc n % 1461))
    go true e =
        let l : n % 1461 < 1460 = ltb-true (n % 1461) 1460 e in
        let q : suc n / 1461 ≡ n / 1461 = omega arith in
        let r : suc n % 1461 ≡ n % 1461 + 1 = omega arith in
        inside (n / 1461) (n % 1461) (omega arith) l ∙ both (sym q) (sym r)
    go false e =
        let l : n % 1461 ≡ 1460 = omega (arith, ltb-false (n % 1461) 1460 e) in
        let q : suc n / 1461 ≡ n / 1461 + 1 = omega arith in
        let r : suc n % 1461 ≡ 0 = omega arith in
        ap (λ (x : ℕ). tomorrow (from (1956 + n / 1461 * 4) (within x))) l ∙ over (n / 1461) (omega arith) ∙ both (sym q) (sym r)

-- the formula is the calendar
formula_is : (n : ℕ) → n < 51135 → formula n ≡ date_of n
unfolding date_of
formula_is zero h = unfold formula from within mp_of doy_of turn_of day_of in refl
formula_is (suc n) h = sym (step n (omega arith)) ∙ ap tomorrow (formula_is n (omega arith))

-- ---- as the code has it: t is the year of the four
module _ (n t : ℕ) (h : n < 51135) (e : t ≡ min (n % 1461 / 365) 3) where
  abbrev doy : ℕ
  doy = n % 1461 - 365 * t

  abbrev mp : ℕ
  mp = (5 * doy + 2) / 153

  pub from_march : mp < 10 → ◌≡◌ {A = Date} (record { year = 1956 + n / 1461 * 4 + t; month = mp + 3; day = doy - (153 * mp + 2) / 5 + 1 }) (date_of n)
  unfolding formula from within mp_of doy_of turn_of day_of
  from_march l = simp e (sym (ap (λ (b : Bool). from (1956 + n / 1461 * 4) (cond b (spring (n % 1461)) (winter (n % 1461)))) (lt-ltb (mp_of (n % 1461)) 10 (simp e at l))) ∙ formula_is n h)

  pub from_january : 10 ≤ mp → ◌≡◌ {A = Date} (record { year = 1956 + n / 1461 * 4 + (t + 1); month = mp - 9; day = doy - (153 * mp + 2) / 5 + 1 }) (date_of n)
  unfolding formula from within mp_of doy_of turn_of day_of
  from_january l = simp e (sym (ap (λ (b : Bool). from (1956 + n / 1461 * 4) (cond b (spring (n % 1461)) (winter (n % 1461)))) (le-ltb (mp_of (n % 1461)) 10 (simp e at l))) ∙ formula_is n h)

-- ---- the day of the year
late_ok : Bool → ℕ → Bool
late_ok l j = eqb ((153 * j + 2) / 5 + cond l 60 59) (months_length l (j + 2))

all_late : (l : Bool) → all_below 10 (late_ok l) ≡ true
unfolding all_below late_ok months_length month_length
all_late true = refl
all_late false = refl

early : (l : Bool) (k : ℕ) → k < 2 → k * 31 ≡ months_length l k
unfolding months_length month_length
early l zero h = refl
early l (suc zero) h = refl
early l (suc (suc k)) h = absurd (no k h)
  where
    no : (k : ℕ) → suc (suc k) < 2 → ⊥
    no k h = omega arith

pub ordinal_early : (d : Date) → 0 < d.month → d.month < 3 → (d.month - 1) * 31 + d.day ≡ ordinal_of d
unfolding ordinal_of
ordinal_early d h k = ap (λ (x : ℕ). x + d.day) (early (leap d.year) (d.month - 1) (omega arith))

pub ordinal_late : (d : Date) (l : Bool) → l ≡ leap d.year → 3 ≤ d.month → d.month ≤ 12 → (153 * (d.month - 3) + 2) / 5 + cond l 60 59 + d.day ≡ ordinal_of d
unfolding ordinal_of late_ok
ordinal_late d l e h k =
    let j : d.month - 3 + 2 ≡ d.month - 1 = omega arith in
    ap (λ (x : ℕ). x + d.day) (eqb-true ((153 * (d.month - 3) + 2) / 5 + cond l 60 59) (months_length l (d.month - 3 + 2)) (at 10 (late_ok l) (all_late l) (d.month - 3) (omega arith))
    ∙ ap (months_length l) j ∙ ap (λ (b : Bool). months_length b (d.month - 1)) e)

-- The two ways of the calendar agree: the day after has the next number, so the n-th day after 1956-03-01 has that day's number
-- and n. Assumes nothing.
use Rattle.std.proofs.Common.{◌≡◌, ℕ, zero, suc, ◌+◌, ◌-◌, ◌<◌, ◌≤◌, Bool, true, false, cond, eqb, ltb, sym, refl, ap, ◌∙◌, arith, lit≤, ltb-false, ltb-true}
use Rattle.moment.specs.Calendar.{leap, year_length, month_length, tomorrow_in, tomorrow, date_of, months_length, days_to_year, ordinal_of, day_number, Dated}
use Rattle.moment.specs.declared.calendar.Date.{Date}

-- one month more
months_next : (l : Bool) (m : ℕ) → 1 ≤ m → months_length l m ≡ months_length l (m - 1) + month_length l m
unfolding months_length
months_next l zero h = absurd (no h)
  where
    no : 1 ≤ 0 → ⊥
    no h = omega arith
months_next l (suc m) h = let e : suc m - 1 ≡ m = omega arith in ap (λ (k : ℕ). months_length l k + month_length l (suc m)) (sym e)

no_months : (l : Bool) → months_length l (1 - 1) ≡ 0
unfolding months_length
no_months l = refl

-- the twelve months are the year
year_of : (l : Bool) → months_length l 12 ≡ cond l 366 365
unfolding months_length month_length
year_of true = refl
year_of false = refl

year_months : (y : ℕ) → months_length (leap y) 12 ≡ year_length y
unfolding year_length
year_months y = year_of (leap y)

next_year : (y : ℕ) → days_to_year (y + 1) ≡ days_to_year y + year_length y
unfolding days_to_year
next_year y = let e : y + 1 ≡ suc y = omega arith in ap days_to_year e

some_day : (l : Bool) (m : ℕ) → 1 ≤ month_length l m
unfolding month_length
some_day l m = go (eqb m 2) (eqb m 4) (eqb m 6) (eqb m 9) (eqb m 11) l
  where
    go : (a b d e f l : Bool) → 1 ≤ cond a (cond l 29 28) (cond b 30 (cond d 30 (cond e 30 (cond f 30 31))))
    go true b d e f true = lit≤ tt
    go true b d e f false = lit≤ tt
    go false true d e f l = lit≤ tt
    go false false true e f l = lit≤ tt
    go false false false true f l = lit≤ tt
    go false false false false true l = lit≤ tt
    go false false false false false l = lit≤ tt

pub record Next (d t : Date) : Type 0 where
  pub dated : Dated t
  pub number : day_number t ≡ day_number d + 1

-- by the two tests of the day after
module _ (d : Date) (v : Dated d) where
  same_month : d.day < month_length (leap d.year) d.month → Next d (record { year = d.year; month = d.month; day = d.day + 1 })
  unfolding day_number ordinal_of
  same_month h = record {
    dated = record { first_month = v.first_month; last_month = v.last_month; first_day = omega arith; last_day = omega arith };
    number = omega arith;
  }

  next_month : month_length (leap d.year) d.month ≤ d.day → d.month < 12 → Next d (record { year = d.year; month = d.month + 1; day = 1 })
  unfolding day_number ordinal_of
  next_month h k =
      let e : d.month + 1 - 1 ≡ d.month = omega arith in
      let m = months_next (leap d.year) d.month v.first_month in
      let x = v.last_day in
      record {
        dated = record { first_month = omega arith; last_month = omega arith; first_day = omega arith; last_day = some_day (leap d.year) (d.month + 1) };
        number = rw (e, m) (omega arith);
      }

  next_first : month_length (leap d.year) d.month ≤ d.day → 12 ≤ d.month → Next d (record { year = d.year + 1; month = 1; day = 1 })
  unfolding day_number ordinal_of
  next_first h k =
      let e : d.month ≡ 12 = omega (arith, v.last_month) in
      let m = months_next (leap d.year) d.month v.first_month in
      let t : months_length (leap d.year) d.month ≡ year_length d.year = ap (months_length (leap d.year)) e ∙ year_months d.year in
      let y = next_year d.year in
      let x = v.last_day in
      record {
        dated = record { first_month = lit≤ tt; last_month = lit≤ tt; first_day = lit≤ tt; last_day = some_day (leap (d.year + 1)) 1 };
        number = rw (y, no_months (leap (d.year + 1))) (omega arith);
      }

pub next : (d : Date) → Dated d → Next d (tomorrow d)
unfolding tomorrow_in
next d v = go (ltb d.day (month_length (leap d.year) d.month)) refl (ltb d.month 12) refl
  where
    go : (a : Bool) → ltb d.day (month_length (leap d.year) d.month) ≡ a → (b : Bool) → ltb d.month 12 ≡ b
        → Next d (cond a (record { year = d.year; month = d.month; day = d.day + 1 }) (cond b (record { year = d.year; month = d.month + 1; day = 1 }) (record { year = d.year + 1; month = 1; day = 1 })))
    go true p b q = same_month d v (ltb-true d.day (month_length (leap d.year) d.month) p)
    go false p true q = next_month d v (ltb-false d.day (month_length (leap d.year) d.month) p) (ltb-true d.month 12 q)
    go false p false q = next_first d v (ltb-false d.day (month_length (leap d.year) d.month) p) (ltb-false d.month 12 q)

-- the n-th day after 1956-03-01
pub record Day (n : ℕ) (d : Date) : Type 0 where
  pub dated : Dated d
  pub number : day_number d ≡ 714475 + n

first : day_number (record { year = 1956; month = 3; day = 1 }) ≡ 714475 + 0
unfolding day_number ordinal_of days_to_year year_length months_length month_length leap
first = refl

pub day : (n : ℕ) → Day n (date_of n)
unfolding date_of
day zero = record {
  dated = record { first_month = lit≤ tt; last_month = lit≤ tt; first_day = lit≤ tt; last_day = some_day (leap 1956) 3 };
  number = first;
}
day (suc n) = let h = next (date_of n) (day n).dated in record { dated = h.dated; number = h.number ∙ omega (arith, (day n).number) }

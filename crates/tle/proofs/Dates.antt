-- How many days a month and a year have at most. Assumes nothing.
use mathlib.Core.Path.{◌≡◌, sym, ap, subst}
use mathlib.Core.Bool.{Bool, true, false}
use Prim.Native.Nat.{ℕ, zero, suc, ◌+◌, ◌-◌, ◌≤◌, ◌<◌}
use native.Mathlib.Nat.{le_refl}
use native.Mathlib.Omega.{arith}
use lib.Dec.{lit≤}
use Rattle.moment.specs.Calendar.{leap, month_length, months_length, date_of, ordinal_of, Dated}
use Rattle.moment.specs.declared.calendar.Date.{Date}
use Rattle.moment.proofs.Lengths.{month_most}
use Rattle.moment.proofs.Numbers.{day}

pub day_le : (d : Date) → Dated d → d.day ≤ 31
day_le d h = let a = h.last_day in let b = month_most (leap d.year) d.month in omega arith

-- so many months and some more
one_more : (l : Bool) (m k : ℕ) → months_length l m ≤ months_length l k → months_length l m ≤ months_length l (suc k)
unfolding months_length
one_more l m k h = omega arith

months_le : (l : Bool) (m j : ℕ) → months_length l m ≤ months_length l (j + m)
months_le l m zero = let e : 0 + m ≡ m = omega arith in rw e (le_refl _)
months_le l m (suc j) = let e : suc j + m ≡ suc (j + m) = omega arith in rw e (one_more l m (j + m) (months_le l m j))

twelve : (l : Bool) → months_length l 12 ≤ 366
unfolding months_length month_length
twelve true = lit≤ tt
twelve false = lit≤ tt

to_month : (l : Bool) (k : ℕ) → suc k ≤ 12 → months_length l k + month_length l (suc k) ≤ 366
unfolding months_length
to_month l k h =
    let e : 12 - suc k + suc k ≡ 12 = omega arith in
    let a = months_le l (suc k) (12 - suc k) in
    let b = twelve l in
    let c = ap (months_length l) e in
    omega (arith, a, b, c)

pub ordinal_le : (d : Date) → Dated d → ordinal_of d ≤ 366
unfolding ordinal_of
ordinal_le d h =
    let l = leap d.year in
    let f = h.first_month in
    let g = h.last_month in
    let e : suc (d.month - 1) ≡ d.month = omega arith in
    let a = to_month l (d.month - 1) (omega arith) in
    let b = h.last_day in
    let c = ap (month_length l) e in
    omega (arith, a, b, c)

-- what `ordinal` asks of a date
pub in_year : (n : ℕ) (d : Date) → d ≡ date_of n → (0 < d.month) × (d.month ≤ 12) × (d.day ≤ 31)
in_year n d e = let h = (day n).dated in subst (λ (x : Date). (0 < x.month) × (x.month ≤ 12) × (x.day ≤ 31)) (sym e) (h.first_month, h.last_month, day_le (date_of n) h)

-- The days before a year and a month, by the calendar's rule and by the sum that the code works out. Assumes nothing.
use Rattle.std.proofs.Common.{◌≡◌, ℕ, zero, suc, ◌+◌, ◌*◌, ◌/◌, ◌%◌, ◌≤◌, Bool, true, false, cond, eqb, sym, refl, ap, ◌∙◌, subst, add-one, arith, lit≤, eqb-true, ne_eqb, ◌⊎◌, inl, inr}
use borrow.Author.Tests.{eqb-false}
use Rattle.moment.specs.Calendar.{leap, year_length, month_length, months_length, days_to_year, Month, Months}

pub month_most : (l : Bool) (m : ℕ) → month_length l m ≤ 31
unfolding month_length
month_most l m = go (eqb m 2) (eqb m 4) (eqb m 6) (eqb m 9) (eqb m 11) l
  where
    go : (a b d e f l : Bool) → cond a (cond l 29 28) (cond b 30 (cond d 30 (cond e 30 (cond f 30 31)))) ≤ 31
    go true b d e f true = lit≤ tt
    go true b d e f false = lit≤ tt
    go false true d e f l = lit≤ tt
    go false false true e f l = lit≤ tt
    go false false false true f l = lit≤ tt
    go false false false false true l = lit≤ tt
    go false false false false false l = lit≤ tt

pub months_more : {l : Bool} {k days d : ℕ} → Months l k days → Month l (k + 1) d → Months l (k + 1) (days + d)
unfolding months_length
months_more {l = l} {k = k} a b = record { is = (λ j. a.is j + b.is j) ∙ ap (λ (m : ℕ). months_length l k + month_length l m) (add-one k) ∙ ap (months_length l) (sym (add-one k)); most = omega (arith, a.most, b.most) }

pub same_months : {l : Bool} {k n r : ℕ} → k ≡ n → Months l k r → Months l n r
same_months {l = l} {r = r} e m = subst (λ (k : ℕ). Months l k r) e m

-- each of the three counts goes up by one where its year is reached
up_4 : (y : ℕ) → y % 4 ≡ 0 → (y + 1 + 3) / 4 ≡ (y + 3) / 4 + 1
up_4 y h = omega arith

stay_4 : (y : ℕ) → (y % 4 ≡ 0 → ⊥) → (y + 1 + 3) / 4 ≡ (y + 3) / 4
stay_4 y h = omega arith

up_100 : (y : ℕ) → y % 100 ≡ 0 → (y + 1 + 99) / 100 ≡ (y + 99) / 100 + 1
up_100 y h = omega arith

stay_100 : (y : ℕ) → (y % 100 ≡ 0 → ⊥) → (y + 1 + 99) / 100 ≡ (y + 99) / 100
stay_100 y h = omega arith

up_400 : (y : ℕ) → y % 400 ≡ 0 → (y + 1 + 399) / 400 ≡ (y + 399) / 400 + 1
up_400 y h = omega arith

stay_400 : (y : ℕ) → (y % 400 ≡ 0 → ⊥) → (y + 1 + 399) / 400 ≡ (y + 399) / 400
stay_400 y h = omega arith

four : (y : ℕ) → y % 100 ≡ 0 → y % 4 ≡ 0
four y h = omega arith

hundred : (y : ℕ) → y % 400 ≡ 0 → y % 100 ≡ 0
hundred y h = omega arith

tidy : (u v w : ℕ) → u + 1 + (v + 1) + w + 365 ≡ u + v + (w + 1) + 366
tidy u v w = omega arith

tidy' : (u v w : ℕ) → u + 1 + v + w + 365 ≡ u + v + (w + 1) + 365
tidy' u v w = omega arith

tidy'' : (u v w : ℕ) → u + 1 + v + w + 365 ≡ u + v + w + 366
tidy'' u v w = omega arith

next_year : (y : ℕ) → (y + 1 + 3) / 4 + (y + 1 + 399) / 400 + (y + 99) / 100 + 365 ≡ (y + 3) / 4 + (y + 399) / 400 + (y + 1 + 99) / 100 + year_length y
unfolding leap year_length
next_year y = go (eqb (y % 400) 0) refl (eqb (y % 100) 0) refl (eqb (y % 4) 0) refl
  where
    go : (a : Bool) → eqb (y % 400) 0 ≡ a → (b : Bool) → eqb (y % 100) 0 ≡ b → (d : Bool) → eqb (y % 4) 0 ≡ d →
        (y + 1 + 3) / 4 + (y + 1 + 399) / 400 + (y + 99) / 100 + 365 ≡ (y + 3) / 4 + (y + 399) / 400 + (y + 1 + 99) / 100 + cond (cond a true (cond b false d)) 366 365
    go true p b q d r = let h = eqb-true (y % 400) 0 p in rw (up_400 y h, up_100 y (hundred y h), up_4 y (four y (hundred y h))) (tidy _ _ _)
    go false p true q d r = let h = eqb-true (y % 100) 0 q in rw (stay_400 y (eqb-false (y % 400) 0 p), up_100 y h, up_4 y (four y h)) (tidy' _ _ _)
    go false p false q true r = rw (stay_400 y (eqb-false (y % 400) 0 p), stay_100 y (eqb-false (y % 100) 0 q), up_4 y (eqb-true (y % 4) 0 r)) (tidy'' _ _ _)
    go false p false q false r = rw (stay_400 y (eqb-false (y % 400) 0 p), stay_100 y (eqb-false (y % 100) 0 q), stay_4 y (eqb-false (y % 4) 0 r)) refl

-- the days to a year, as a sum
pub years : (y : ℕ) → days_to_year y + (y + 99) / 100 ≡ y * 365 + (y + 3) / 4 + (y + 399) / 400
unfolding days_to_year
years zero = refl
years (suc y) = let h = years y in let g = next_year y in let e : suc y ≡ y + 1 = sym (add-one y) in subst (λ (z : ℕ). days_to_year y + year_length y + (z + 99) / 100 ≡ z * 365 + (z + 3) / 4 + (z + 399) / 400) (sym e) (omega arith)

pub years_most : (y : ℕ) → days_to_year y ≤ 366 * y
years_most y = omega (arith, years y)

thirty_of : (l : Bool) (m : ℕ) → (m ≡ 4) ⊎ (m ≡ 6) ⊎ (m ≡ 9) ⊎ (m ≡ 11) → 30 ≡ month_length l m
unfolding month_length
thirty_of l m (inl e) = rw e refl
thirty_of l m (inr (inl e)) = rw e refl
thirty_of l m (inr (inr (inl e))) = rw e refl
thirty_of l m (inr (inr (inr e))) = rw e refl

pub thirty : (l : Bool) (m : ℕ) → (m ≡ 4) ⊎ (m ≡ 6) ⊎ (m ≡ 9) ⊎ (m ≡ 11) → Month l m 30
thirty l m h = record { is = thirty_of l m h; most = omega arith }

pub other : (l : Bool) (m : ℕ) → (m ≡ 2 → ⊥) → (m ≡ 4 → ⊥) → (m ≡ 6 → ⊥) → (m ≡ 9 → ⊥) → (m ≡ 11 → ⊥) → Month l m 31
unfolding month_length
other l m a b d e f = record { is = simp (ne_eqb m 2 a, ne_eqb m 4 b, ne_eqb m 6 d, ne_eqb m 9 e, ne_eqb m 11 f); most = omega arith }

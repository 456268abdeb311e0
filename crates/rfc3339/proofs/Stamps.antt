-- Patterns and fractions. Assumes nothing.
use mathlib.Core.Path.{◌≡◌, refl, sym, ap, ◌∙◌, subst}
use mathlib.Core.Bool.{Bool, true, false, ◌&&◌, cond}
use mathlib.Core.List.{List, [], ◌∷◌}
use Prim.Native.Nat.{ℕ, ◌+◌, ◌-◌, ◌*◌, ◌^◌, ◌≤◌, ◌<◌, min}
use native.Mathlib.Nat.{mul-one, mul-lt-mul_of_pos_right, one-le-pow}
use native.Mathlib.Omega.{arith}
use lib.Dec.{lit<, leb, ltb, eqb}
use lib.ListN.{length, drop}
use lib.Pow.{pow-add}
use Rattle.std.specs.List.{list_all, zip}
use Rattle.decimal.specs.Read.{with_digits}
use Rattle.rfc3339.specs.Rfc3339.{place_fits, matches, nanos, valid_time, valid_date}
use Rattle.moment.specs.Calendar.{leap, month_length}
use Rattle.moment.proofs.Lengths.{month_most}
use borrow.Author.Tests.{ltb-true, ltb-false, leb-true, eqb-false}
use Rattle.laws.proofs.Tests.{false_behind}

-- a pattern and a text of its length or more, byte by byte
pub matches_is : (p l : List ℕ) → length p ≤ length l → matches p l ≡ list_all (λ (q : ℕ × ℕ). place_fits q.0 q.1) (zip p l)
unfolding matches
matches_is [] l h = refl
matches_is (p ∷ ps) [] h = absurd (omega arith)
matches_is (p ∷ ps) (c ∷ l) h = ap (λ (r : Bool). place_fits p c && r) (matches_is ps l (omega arith))

pub matches_short : (p l : List ℕ) → length l < length p → matches p l ≡ false
unfolding matches
matches_short [] l h = absurd (omega arith)
matches_short (p ∷ ps) [] h = refl
matches_short (p ∷ ps) (c ∷ l) h = ap (λ (r : Bool). place_fits p c && r) (matches_short ps l (omega arith)) ∙ false_behind (place_fits p c)

-- with at most nine digits and as many zeros as are missing
pub nanos_kept : (l : List ℕ) (n : ℕ) → nanos l n ≡ with_digits 0 (min n 9) (drop 20 l) * 10 ^ (9 - min n 9)
unfolding nanos
nanos_kept l n = go (ltb n 9) refl
  where
    go : (b : Bool) → ltb n 9 ≡ b → cond b (with_digits 0 n (drop 20 l) * 10 ^ (9 - n)) (with_digits 0 9 (drop 20 l)) ≡ with_digits 0 (min n 9) (drop 20 l) * 10 ^ (9 - min n 9)
    go true h = let k = ltb-true n 9 h in let e : n ≡ min n 9 = omega arith in ap (λ (m : ℕ). with_digits 0 m (drop 20 l) * 10 ^ (9 - m)) e
    go false h = let k = ltb-false n 9 h in let e : 9 ≡ min n 9 = omega arith in sym (mul-one (with_digits 0 9 (drop 20 l))) ∙ ap (λ (m : ℕ). with_digits 0 m (drop 20 l) * 10 ^ (9 - m)) e

-- n digits and 9 - n zeros are a number of nine digits
pub billionths : {r n w : ℕ} → r < 10 ^ (0 + n) → w ≡ 10 ^ (9 - n) → n ≤ 9 → r * w < 1000000000
billionths {r = r} {n = n} {w = w} a e h = go
  where
    k : n + (9 - n) ≡ 9
    k = omega arith

    z : 0 + n ≡ n
    z = omega arith

    all : 10 ^ n * 10 ^ (9 - n) ≡ 1000000000
    all = sym (pow-add 10 n (9 - n)) ∙ ap (λ (x : ℕ). 10 ^ x) k

    b : r < 10 ^ n
    b = subst (λ (x : ℕ). r < 10 ^ x) z a

    go : r * w < 1000000000
    go = subst (λ (x : ℕ). r * x < 1000000000) (sym e) (subst (λ (x : ℕ). r * 10 ^ (9 - n) < x) all (mul-lt-mul_of_pos_right b (one-le-pow (9 - n) 10 (lit< tt))))

-- what the tests of a time and a day say
pub record InDay (h m s : ℕ) : Type 0 where
  pub hour : h ≤ 23
  pub minute : m ≤ 59
  pub second : s ≤ 59

pub in_day : (h m s : ℕ) → valid_time h m s ≡ true → InDay h m s
unfolding valid_time
in_day h m s e = go (ltb 23 h) refl (ltb 59 m) refl e
  where
    go : (a : Bool) → ltb 23 h ≡ a → (b : Bool) → ltb 59 m ≡ b → cond a false (cond b false (leb s 59)) ≡ true → InDay h m s
    go true p b q t = let z : ◌≡◌ {A = ℕ} 0 1 = cc in absurd (omega arith)
    go false p true q t = let z : ◌≡◌ {A = ℕ} 0 1 = cc in absurd (omega arith)
    go false p false q t = record { hour = ltb-false 23 h p; minute = ltb-false 59 m q; second = leb-true s 59 t }

pub record InYear (m d : ℕ) : Type 0 where
  pub month : m ≤ 12
  pub first : 1 ≤ m
  pub begin : 1 ≤ d
  pub day : d ≤ 31

pub in_year : (y m d : ℕ) → valid_date y m d ≡ true → InYear m d
unfolding valid_date
in_year y m d e = go (eqb m 0) refl (ltb 12 m) refl (eqb d 0) refl e
  where
    go : (a : Bool) → eqb m 0 ≡ a → (b : Bool) → ltb 12 m ≡ b → (f : Bool) → eqb d 0 ≡ f → cond a false (cond b false (cond f false (leb d (month_length (leap y) m)))) ≡ true → InYear m d
    go true p b q f r t = let z : ◌≡◌ {A = ℕ} 0 1 = cc in absurd (omega arith)
    go false p true q f r t = let z : ◌≡◌ {A = ℕ} 0 1 = cc in absurd (omega arith)
    go false p false q true r t = let z : ◌≡◌ {A = ℕ} 0 1 = cc in absurd (omega arith)
    go false p false q false r t =
        let m0 = eqb-false m 0 p in
        let d0 = eqb-false d 0 r in
        let dl = leb-true d (month_length (leap y) m) t in
        let ml = month_most (leap y) m in
        record { month = ltb-false 12 m q; first = omega arith; begin = omega arith; day = omega arith }

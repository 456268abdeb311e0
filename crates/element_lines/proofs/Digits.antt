-- A number read from its columns. Assumes nothing.
use mathlib.Core.Path.{◌≡◌, refl, ap, ◌∙◌}
use mathlib.Core.Bool.{Bool, true, false, cond}
use mathlib.Core.List.{List}
use Prim.Native.Nat.{ℕ, suc, ◌+◌, ◌-◌, ◌*◌, ◌^◌, ◌≤◌, ◌<◌}
use native.Mathlib.Nat.{le_antisymm, lt_of_lt_of_le, pow-suc, pow-le-pow_right}
use native.Mathlib.Omega.{arith}
use lib.Dec.{lit<}
use lib.ListN.{length, get_or, take, drop}
use lib.Seq.{drop-length}
use Rattle.laws.proofs.Lists.{here}
use Rattle.decimal.specs.Read.{is_digit}
use Rattle.tle.specs.Printed.{read_digits, number_in}
use Rattle.tle.proofs.Columns.{columns_are}
use Rattle.element_lines.specs.Parts.{with_byte}

-- ---- a number read byte by byte
either : (b : Bool) (x y : ℕ) (l : List ℕ) → read_digits (cond b x y) l ≡ cond b (read_digits x l) (read_digits y l)
either true x y l = refl
either false x y l = refl

pub next : (n i : ℕ) (l : List ℕ) → i < length l → read_digits (with_byte n (get_or l i 0)) (drop (i + 1) l) ≡ read_digits n (drop i l)
next n i l h = let c = get_or l i 0 in either (is_digit c) (n * 10 + (c - 48)) n (drop (i + 1) l) ∙ rw (here l i h) (unfold read_digits in refl)

pub end : (n i : ℕ) (l : List ℕ) → i ≤ length l → length l ≤ i → read_digits n (drop i l) ≡ n
end n i l h k = ap (λ (j : ℕ). read_digits n (drop j l)) (le_antisymm h k) ∙ ap (read_digits n) (drop-length l) ∙ (unfold read_digits in refl)

-- n of i digits
pub twelve : (n i : ℕ) → n < 10 ^ i → i ≤ 12 → n < 1000000000000
twelve n i h k = lt_of_lt_of_le h (pow-le-pow_right (lit< tt) k)

pub one_more : (r n i : ℕ) → n < 10 ^ i → r ≤ n * 10 + 9 → r < 10 ^ (i + 1)
one_more r n i h k =
    let e : 10 ^ (i + 1) ≡ 10 ^ i * 10 = ap (λ (j : ℕ). 10 ^ j) (let f : i + 1 ≡ suc i = omega arith in f) ∙ pow-suc 10 i in
    omega (arith, e)

-- ---- the number in columns a to b, as a part of the line
pub part : (a b : ℕ) (l : List ℕ) → 0 < a → read_digits 0 (take (b - (a - 1)) (drop (a - 1) l)) ≡ number_in a b l
unfolding number_in
part a b l h = ap (read_digits 0) (columns_are a b l h)

-- `decimal::ratio::quick` meets its contract. Assumes nothing.
use mathlib.Core.Path.{◌≡◌, refl, sym, ap, ◌∙◌, subst}
use Prim.Native.Nat.{ℕ, ◌+◌, ◌-◌, ◌*◌, ◌/◌, ◌%◌, ◌^◌, ◌≤◌, ◌<◌}
use native.Mathlib.Nat.{le_of_eq, lt_of_lt_of_le, le-div_iff_mul-le, mod-lt, mod-eq_of_lt}
use lib.Dec.{lit<}
use native.Mathlib.Omega.{arith}
use lib.Count.{count_leading_zeros}
use lib.Pow.{pow_pos}
use lib.Ieee.Nearest.{closest}
use Rattle.decimal.specs.Ratio.{Pattern}
use Rattle.decimal.proofs.Round.{ten_pos}
use Rattle.decimal.proofs.Parts.{one_shl}
use Rattle.decimal.proofs.Quick.{under_whole, made, lifted}
use Rattle.decimal.proofs.ratio.quick.Goals.{After-moved, After-power-b, Else-z-gt63}
use Rattle.decimal.proofs.ratio.quick.Goals as goal

positive : (c : After-power-b) → 0 < c.power-b.result
positive c = lt_of_lt_of_le (ten_pos _) (le_of_eq (sym c.power-b.ensures))

-- d after it has gone up by j places
abbrev dividend : ℕ → ℕ → ℕ
dividend d j = d * 2 ^ j % 2 ^ 64

abbrev zeros : ℕ → ℕ → ℕ → ℕ
zeros d j b = count_leading_zeros 64 (dividend d j / b)

shift : (z : ℕ) → z ≤ 63 → 1 * 2 ^ (z - 11) % 2 ^ 64 ≡ 2 ^ (z - 11)
shift z upper = one_shl (z - 11) (omega arith)

done : (c : After-moved)
    → Pattern c.args.d 0 (c.in_ok-k.k) ((1074 - c.room-j.result - (zeros c.args.d c.room-j.result c.power-b.result - 11)) * 2 ^ 52 + c.moved.result)
done c =
    let d = c.args.d in
    let j = c.room-j.result in
    let b = c.power-b.result in
    let z = zeros d j b in
    let P : 0 < b = lt_of_lt_of_le (ten_pos _) (le_of_eq (sym c.power-b.ensures)) in
    subst (λ (q : ℕ). Pattern d 0 (c.in_ok-k.k) ((1074 - j - (z - 11)) * 2 ^ 52 + q)) (sym (c.moved.ensures ∙ ap (λ (p : ℕ). closest (dividend d j * p) b) (shift z c.if-z-gt63.false)))
    (made (dividend d j) b z (mod-lt _ (lit< tt)) P refl c.if-z-lt11.false c.if-z-gt63.false d j (mod-eq_of_lt c.room-j.ensures.1) c.room-j.ensures.0 (c.in_ok-k.k) c.power-b.ensures)

pub room-j-requires : goal.room-j-requires
room-j-requires c = positive (goal.at.room-j-requires c).After-power-b

pub nonzero_div-z : goal.nonzero_div-z
nonzero_div-z c = positive (goal.at.nonzero_div-z c).After-power-b

pub nonzero_div-p : goal.nonzero_div-p
nonzero_div-p c = rw (shift (zeros c.args.d c.room-j.result c.power-b.result) c.if-z-gt63.false) (pow_pos _)

pub moved-requires : goal.moved-requires
moved-requires c =
    let d = c.args.d in
    let j = c.room-j.result in
    let b = c.power-b.result in
    let z = zeros d j b in
    let e = shift z c.if-z-gt63.false in
    let P = positive (goal.at.moved-requires c).After-power-b in (
      P,
      rw e (pow_pos _),
      (le-div_iff_mul-le {k = 1 * 2 ^ (z - 11) % 2 ^ 64} {x = b} {y = 2 ^ 63} (rw e (pow_pos _))).0 c.if-p-b.false,
      rw e (under_whole (dividend d j) b z (mod-lt _ (lit< tt)) P refl c.if-z-lt11.false c.if-z-gt63.false),
    )

pub overflow_add-result : goal.overflow_add-result
overflow_add-result c = omega (arith, (done (goal.at.overflow_add-result c).After-moved).small)

-- k is what `down` has over `up`
over : (d up down k r : ℕ) → up ≤ down → k ≡ down - up → Pattern d 0 k r → Pattern d up down r
over d up down k r h e p = lifted d up down r h (subst (λ (n : ℕ). Pattern d 0 n r) e p)

pub returns : goal.returns
returns c = let k = c.in_ok-k.ensures in over c.args.d c.args.up c.args.down c.in_ok-k.k _ k.0 k.1 (done (goal.at.returns c).After-moved)

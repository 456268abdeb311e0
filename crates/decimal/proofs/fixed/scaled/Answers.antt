-- `decimal::fixed::scaled` meets its contract. Assumes nothing.
use native.Mathlib.Omega.{arith}
use mathlib.Core.Path.{◌≡◌, sym, ap, ◌∙◌, subst}
use Prim.Native.Nat.{ℕ, ◌+◌, ◌-◌, ◌*◌, ◌/◌, ◌%◌, ◌^◌, ◌≤◌, ◌<◌}
use native.Mathlib.Nat.{mod-lt}
use lib.Dec.{T, lit<}
use lib.Pow.{pow_pos, pow_mono}
use lib.Ieee.{Float, binary64, to_bits}
use lib.Ieee.Scale.{finite}
use lib.Ieee.Positive.{num, den, den_pos}
use lib.Ieee.Nearest.{closest}
use Rattle.decimal.proofs.Parts.{within_small, float_value, no_nan, units_of, field_of, decimal_units, tiny, field_le, column, columns_fit, one_shl, big}
use Rattle.decimal.proofs.fixed.scaled.Goals.{Else-field-lt985, Start}
use Rattle.decimal.proofs.fixed.scaled.Goals as goal

abbrev digitsOf : Float → ℕ
digitsOf v = 2 ^ 52 + to_bits binary64 v % 2 ^ 52

-- v is finite, and below 1000
small : (c : Start) → T (finite c.args.v) × (num c.args.v < 1000 * den c.args.v)
small c = within_small c.args.v c.requires.0

-- v in units of 2 ^ -1074, by the fields of its pattern
value : (c : Start) → num c.args.v * 2 ^ 1074 ≡ units_of (field_of (to_bits binary64 c.args.v)) (to_bits binary64 c.args.v % 2 ^ 52) * den c.args.v
value c = float_value c.args.v (subst T (sym c.well_formed.0.1) tt) (small c).0

field : (c : Start) → field_of (to_bits binary64 c.args.v) ≤ 1032
field c = field_le (field_of (to_bits binary64 c.args.v)) (to_bits binary64 c.args.v % 2 ^ 52) (num c.args.v) (den c.args.v) (den_pos c.args.v) (small c).1 (value c)

cols : (c : Start) → (digitsOf c.args.v % 0x1_0000_0000 * c.args.ten ≤ 0xffff_ffff * 100000000) × (digitsOf c.args.v / 0x1_0000_0000 * c.args.ten ≤ 0x20_0000 * 100000000)
cols c = columns_fit (digitsOf c.args.v) c.args.ten c.args.places (omega arith) c.requires.1 c.requires.2

shift : (c : Else-field-lt985) → 1 * 2 ^ (1044 - field_of (to_bits binary64 c.args.v)) % 2 ^ 64 ≡ 2 ^ (1044 - field_of (to_bits binary64 c.args.v))
shift c = one_shl (1044 - field_of (to_bits binary64 c.args.v)) (omega (arith, c.if-field-lt985.false))

pub float_to_bits-bits : goal.float_to_bits-bits
float_to_bits-bits c = no_nan c.args.v (small (goal.at.float_to_bits-bits c).Start).0

pub returns-then-field-lt985 : goal.returns-then-field-lt985
returns-then-field-lt985 c =
    sym (decimal_units c.args.places _ c.args.v (value (goal.at.returns-then-field-lt985 c).Start)
    ∙ tiny c.args.places _ (to_bits binary64 c.args.v % 2 ^ 52) c.requires.2 c.if-field-lt985.true (mod-lt (to_bits binary64 c.args.v) (lit< tt)))

pub overflow_mul-low : goal.overflow_mul-low
overflow_mul-low c = omega (arith, cols (goal.at.overflow_mul-low c).Start)

pub overflow_mul-high : goal.overflow_mul-high
overflow_mul-high c = omega (arith, cols (goal.at.overflow_mul-high c).Start)

pub overflow_add-high : goal.overflow_add-high
overflow_add-high c = omega (arith, cols (goal.at.overflow_add-high c).Start)

pub overflow_mul-high-2 : goal.overflow_mul-high-2
overflow_mul-high-2 c = omega (arith, cols (goal.at.overflow_mul-high-2 c).Start)

pub overflow_add-high-2 : goal.overflow_add-high-2
overflow_add-high-2 c = omega (arith, cols (goal.at.overflow_add-high-2 c).Start)

pub overflow_sub-field : goal.overflow_sub-field
overflow_sub-field c = omega (arith, field (goal.at.overflow_sub-field c).Start)

pub nearest-requires : goal.nearest-requires
nearest-requires c =
    rw (shift (goal.at.nearest-requires c).Else-field-lt985) (omega (arith, cols (goal.at.nearest-requires c).Start), pow_pos (1044 - field_of (to_bits binary64 c.args.v)), pow_mono {i = 1044 - field_of (to_bits binary64 c.args.v)} {j = 63} (omega (arith, c.if-field-lt985.false)))

pub returns : goal.returns
returns c =
    let v = c.args.v in
    c.nearest.ensures
    ∙ ap (closest (column (digitsOf v) c.args.ten)) (shift (goal.at.returns c).Else-field-lt985)
    ∙ sym
    (decimal_units c.args.places _ v (value (goal.at.returns c).Start)
    ∙ ap (λ (w : ℕ). closest (units_of (field_of (to_bits binary64 v)) (to_bits binary64 v % 2 ^ 52) * w) (2 ^ 1074)) (sym c.requires.1)
    ∙ big c.args.ten (field_of (to_bits binary64 v)) (to_bits binary64 v % 2 ^ 52) c.if-field-lt985.false (field (goal.at.returns c).Start))

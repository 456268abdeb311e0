-- `roots::cube::nearest_cube_root` meets its contract. The number sought lies from `low` up and below `high`. Assumes nothing.
use mathlib.Core.Path.{◌≡◌, sym, ap, ◌∙◌, subst}
use mathlib.Core.Bool.{Bool, true, false, not}
use Prim.Native.Nat.{ℕ, ◌+◌, ◌-◌, ◌*◌, ◌/◌, ◌^◌, ◌≤◌, ◌<◌}
use native.Mathlib.Nat.{le_trans, le_of_eq, le_of_lt, lt_of_lt_of_le, mul-le-mul_right, mul-lt-mul_of_pos_right}
use native.Mathlib.Omega.{arith}
use lib.Dec.{T, leb, leb→le, nleb→lt, lit≤}
use lib.Arith.{lt_of_le-ne}
use lib.Pow.{pow_pos}
use Rattle.roots.specs.Power.{cube}
use Rattle.roots.specs.Nearest.{Nearest}
use Rattle.roots.proofs.Power.{cube_power}
use Rattle.roots.proofs.cube.nearest_cube_root.Invariants.{Between}
use Rattle.roots.proofs.cube.nearest_cube_root.Goals as goal

halved : (low high : ℕ) → 1 < high - low → (low < low + (high - low) / 2) × (low + (high - low) / 2 < high)
halved low high t = (omega arith, omega arith)

-- what the test says
module _ (a b : ℕ) (r : Bool) (is : r ≡ leb a b) where
  yes : r ≡ true → a ≤ b
  yes e = leb→le a b (subst T (sym e ∙ is) tt)

  no : r ≡ false → b < a
  no e = nleb→lt a b (subst (λ (z : Bool). T (not z)) (sym e ∙ is) tt)

-- a turn, to either side
module _ (m low high : ℕ) (i : Between m low high) (t : 1 < high - low) where
  raise : cube ((low + (high - low) / 2) * 2 - 1) ≤ m * 2 ^ 107 → Between m (low + (high - low) / 2) high
  raise h = record { less = (halved low high t).1; least = le_trans i.least (le_of_lt (halved low high t).0); most = i.most; below = h; above = i.above }

  lower : m * 2 ^ 107 < cube ((low + (high - low) / 2) * 2 - 1) → Between m low (low + (high - low) / 2)
  lower h = record { less = (halved low high t).0; least = i.least; most = le_trans (le_of_lt (halved low high t).1) i.most; below = i.below; above = h }

no_tie : (q t : ℕ) → 0 < q → cube (q * 2 - 1) ≡ 8 * t → ⊥
no_tie q t h e = cube_power.odd (q - 1) t (subst (λ (z : ℕ). cube z ≡ 8 * t) (same q h) e)
  where
    same : (q : ℕ) → 0 < q → q * 2 - 1 ≡ 2 * (q - 1) + 1
    same q h = omega arith

found : (m low high : ℕ) → Between m low high → high - low ≤ 1 → Nearest cube (m * 2 ^ 104) low
found m low high i h =
    let one : high ≡ low + 1 = omega (arith, i.less) in
    let eight : m * 2 ^ 107 ≡ 8 * (m * 2 ^ 104) = scale m in
    record {
      some = omega (arith, i.least);
      below = subst (λ (z : ℕ). cube z < 8 * (m * 2 ^ 104)) (down low) (lt_of_le-ne (le_trans i.below (le_of_eq eight)) (no_tie low (m * 2 ^ 104) (omega (arith, i.least))));
      above = subst (λ (z : ℕ). 8 * (m * 2 ^ 104) < cube z) (ap (λ (z : ℕ). z * 2 - 1) one ∙ up low) (subst (λ (z : ℕ). z < cube (high * 2 - 1)) eight i.above);
    }
  where
    scale : (m : ℕ) → m * 2 ^ 107 ≡ 8 * (m * 2 ^ 104)
    scale m = omega arith

    down : (q : ℕ) → q * 2 - 1 ≡ 2 * q - 1
    down q = omega arith

    up : (q : ℕ) → (q + 1) * 2 - 1 ≡ 2 * q + 1
    up q = omega arith

first : cube (4503599627370496 * 2 - 1) ≤ 4503599627370496 * 2 ^ 107
first = lit≤ tt

last : 36028797018963968 * 2 ^ 107 ≤ cube (9007199254740993 * 2 - 1)
last = lit≤ tt

pub loop-high-init : goal.loop-high-init
loop-high-init c = record {
  less = omega arith;
  least = omega arith;
  most = omega arith;
  below = le_trans first (mul-le-mul_right (2 ^ 107) c.requires.0);
  above = lt_of_lt_of_le (mul-lt-mul_of_pos_right c.requires.1 (pow_pos 107)) last;
}

pub overflow_sub-high : goal.overflow_sub-high
overflow_sub-high c = let i = c.loop-high.invariant in omega (arith, i.less)

pub overflow_sub-mid : goal.overflow_sub-mid
overflow_sub-mid c = let i = c.loop-high.invariant in omega (arith, i.less)

pub overflow_add-mid : goal.overflow_add-mid
overflow_add-mid c = let i = c.loop-high.invariant in omega (arith, i.less, i.most)

pub overflow_mul-mid : goal.overflow_mul-mid
overflow_mul-mid c = let i = c.loop-high.invariant in omega (arith, i.less, i.most)

pub overflow_sub-mid-in-loop-high : goal.overflow_sub-mid-in-loop-high
overflow_sub-mid-in-loop-high c = let i = c.loop-high.invariant in omega (arith, i.least)

pub cube_at_most-requires : goal.cube_at_most-requires
cube_at_most-requires c = let i = c.loop-high.invariant in omega (arith, i.less, i.most)

pub loop-high-smaller-then-cube_at_most : goal.loop-high-smaller-then-cube_at_most
loop-high-smaller-then-cube_at_most c = omega (arith, c.loop-high-test.true)

pub loop-high-preserved-then-cube_at_most : goal.loop-high-preserved-then-cube_at_most
loop-high-preserved-then-cube_at_most c =
    let l = c.loop-high in
    let m = c.args.m in
    raise m l.low l.high l.invariant c.loop-high-test.true (yes (cube ((l.low + (l.high - l.low) / 2) * 2 - 1)) (m * 2 ^ 107) c.cube_at_most.result c.cube_at_most.ensures c.if-cube_at_most.true)

pub loop-high-smaller : goal.loop-high-smaller
loop-high-smaller c = omega (arith, c.loop-high-test.true)

pub loop-high-preserved : goal.loop-high-preserved
loop-high-preserved c =
    let l = c.loop-high in
    let m = c.args.m in
    lower m l.low l.high l.invariant c.loop-high-test.true (no (cube ((l.low + (l.high - l.low) / 2) * 2 - 1)) (m * 2 ^ 107) c.cube_at_most.result c.cube_at_most.ensures c.if-cube_at_most.false)

pub returns : goal.returns
returns c = let l = c.loop-high in found c.args.m l.low l.high l.invariant c.loop-high-test.false

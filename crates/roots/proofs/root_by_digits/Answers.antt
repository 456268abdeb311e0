-- `roots::root_by_digits` meets its contract. A turn takes two digits more: the root doubles, and takes a last digit 1 where the remainder allows it. Assumes nothing.
use mathlib.Core.Path.{◌≡◌, sym, ap, ◌∙◌, subst}
use Prim.Native.Nat.{ℕ, zero, suc, ◌+◌, ◌-◌, ◌*◌, ◌/◌, ◌%◌, ◌^◌, ◌≤◌, ◌<◌}
use native.Mathlib.Nat.{le_trans, le_of_eq, mul-le-mul_left, mul-le-mul_right, mul-one, pow-succ', mul_assoc, mul-pos}
use native.Mathlib.Omega.{arith}
use lib.Pow.{pow_pos}
use Rattle.roots.specs.Power.{square}
use Rattle.roots.specs.Nearest.{Nearest}
use Rattle.roots.proofs.Square.{by_rest}
use Rattle.roots.proofs.root_by_digits.Invariants.{Taken}
use Rattle.roots.proofs.root_by_digits.Goals.{then-rem-root, else-rem-root}
use Rattle.roots.proofs.root_by_digits.Goals as goal

small : {m rest root rem i : ℕ} → Taken m rest root rem i → root < 9007199254740992
small {m} {rest} {root} {rem} {i} t = le_trans (le_trans (le_of_eq (sym (mul-one (suc root)))) (mul-le-mul_left (suc root) (pow_pos i))) t.room

module _ (m rest root rem i : ℕ) (t : Taken m rest root rem i) (some : 0 < i) where
  two : 2 ^ i ≡ 2 * 2 ^ (i - 1)
  two = ap (λ (k : ℕ). 2 ^ k) (back i some) ∙ pow-succ' 2 (i - 1)
    where
      back : (i : ℕ) → 0 < i → i ≡ suc (i - 1)
      back i h = omega arith

  four : 4 ^ i ≡ 4 * 4 ^ (i - 1)
  four = ap (λ (k : ℕ). 4 ^ k) (back i some) ∙ pow-succ' 4 (i - 1)
    where
      back : (i : ℕ) → 0 < i → i ≡ suc (i - 1)
      back i h = omega arith

  -- the digits that are taken after the turn, x, and those left, y, are the same number as before
  same : (x y : ℕ) → x * 18014398509481984 + y ≡ 4 * ((root * root + rem) * 18014398509481984 + rest) → (x * 18014398509481984 + y) * 4 ^ (i - 1) ≡ m * 4 ^ 53
  same x y e = ap (λ (z : ℕ). z * 4 ^ (i - 1)) e ∙ move ((root * root + rem) * 18014398509481984 + rest) (4 ^ (i - 1)) ∙ ap (λ (z : ℕ). ((root * root + rem) * 18014398509481984 + rest) * z) (sym four) ∙ t.is
    where
      move : (a p : ℕ) → 4 * a * p ≡ a * (4 * p)
      move a p = omega arith

  room_of : (r : ℕ) → suc r ≤ suc root * 2 → suc r * 2 ^ (i - 1) ≤ 9007199254740992
  room_of r h =
      le_trans (mul-le-mul_right (2 ^ (i - 1)) h) (le_trans (le_of_eq (mul_assoc (suc root) 2 (2 ^ (i - 1)) ∙ ap (λ (z : ℕ). suc root * z) (sym two))) t.room)

  one : root * 2 * 2 < rem * 4 + rest / 4503599627370496 → Taken m (rest % 4503599627370496 * 4) (root * 2 + 1) (rem * 4 + rest / 4503599627370496 - (root * 2 * 2 + 1)) (i - 1)
  one h = record {
    low = omega (arith, t.low, t.digits);
    digits = omega arith;
    room = room_of (root * 2 + 1) (omega arith);
    is = same ((root * 2 + 1) * (root * 2 + 1) + (rem * 4 + rest / 4503599627370496 - (root * 2 * 2 + 1))) (rest % 4503599627370496 * 4) (omega arith);
  }

  none : rem * 4 + rest / 4503599627370496 ≤ root * 2 * 2 → Taken m (rest % 4503599627370496 * 4) (root * 2) (rem * 4 + rest / 4503599627370496) (i - 1)
  none h = record {
    low = omega arith;
    digits = omega arith;
    room = room_of (root * 2) (omega arith);
    is = same (root * 2 * (root * 2) + (rem * 4 + rest / 4503599627370496)) (rest % 4503599627370496 * 4) (omega arith);
  }

-- at the end nothing is left
whole : (m rest root rem i : ℕ) → Taken m rest root rem i → i ≤ 0 → m * 2 ^ 52 ≡ root * root + rem
whole m rest root rem i t z =
    let e : i ≡ 0 = omega arith in
    let f : ((root * root + rem) * 18014398509481984 + rest) * 1 ≡ m * 4 ^ 53 = subst (λ (k : ℕ). ((root * root + rem) * 18014398509481984 + rest) * 4 ^ k ≡ m * 4 ^ 53) e t.is in
    omega (arith, t.digits)

up : (n root rem : ℕ) → n ≡ root * root + rem → rem ≤ 2 * root → root < rem → Nearest square n (root + 1)
up n root rem e l h = by_rest n (root + 1) (omega arith) (omega arith) (omega arith)

down : (n root rem : ℕ) → n ≡ root * root + rem → rem ≤ root → 0 < n → Nearest square n root
down n zero rem e h p = absurd (none n rem e h p)
  where
    none : (n rem : ℕ) → n ≡ 0 * 0 + rem → rem ≤ 0 → 0 < n → ⊥
    none n rem e h p = omega arith
down n (suc r) rem e h p = by_rest n (suc r) (omega arith) (omega arith) (omega arith)

some : (k : ℕ) → k < 53 → 0 < 53 - k
some k h = omega arith

next : (k : ℕ) → 53 - k - 1 ≡ 53 - (k + 1)
next k = omega arith

none-left : (k : ℕ) → 53 ≤ k → 53 - k ≤ 0
none-left k h = omega arith

pub loop-init : goal.loop-init
loop-init c = record { low = omega arith; digits = omega arith; room = omega arith; is = omega arith }

pub overflow_mul-rem : goal.overflow_mul-rem
overflow_mul-rem c = omega (arith, small c.loop.invariant, c.loop.invariant.low)

pub overflow_add-rem : goal.overflow_add-rem
overflow_add-rem c = omega (arith, small c.loop.invariant, c.loop.invariant.low, c.loop.invariant.digits)

pub overflow_mul-rest : goal.overflow_mul-rest
overflow_mul-rest c = omega arith

pub overflow_mul-root : goal.overflow_mul-root
overflow_mul-root c = omega (arith, small c.loop.invariant)

pub overflow_mul-root-in-loop : goal.overflow_mul-root-in-loop
overflow_mul-root-in-loop c = omega (arith, small c.loop.invariant)

pub overflow_mul-rem-then-rem-root : goal.overflow_mul-rem-then-rem-root
overflow_mul-rem-then-rem-root c = omega (arith, small c.loop.invariant)

pub overflow_add-rem-then-rem-root : goal.overflow_add-rem-then-rem-root
overflow_add-rem-then-rem-root c = omega (arith, small c.loop.invariant)

pub overflow_sub-rem : goal.overflow_sub-rem
overflow_sub-rem c = omega arith

pub overflow_add-root : goal.overflow_add-root
overflow_add-root c = omega (arith, small c.loop.invariant)

pub loop-preserved : goal.loop-preserved
loop-preserved c =
    let l = c.loop in
    let m = c.args.m in
    let p = some l.counter c.loop-test.true in
    subst (λ (i : ℕ). Taken m (l.rest % 4503599627370496 * 4) c.if-rem-root.root c.if-rem-root.rem i) (next l.counter) (elim c.if-rem-root.branch [
      | then-rem-root w ↦ rw (w.root-is, w.rem-is) (one m l.rest l.root l.rem (53 - l.counter) l.invariant p w.if-rem-root.true)
      | else-rem-root w ↦ rw (w.root-is, w.rem-is) (none m l.rest l.root l.rem (53 - l.counter) l.invariant p w.if-rem-root.false)
    ])

pub overflow_add-result : goal.overflow_add-result
overflow_add-result c = omega (arith, small c.loop.invariant)

pub returns-then-rem-root-2 : goal.returns-then-rem-root-2
returns-then-rem-root-2 c = let l = c.loop in
    up (c.args.m * 2 ^ 52) l.root l.rem (whole c.args.m l.rest l.root l.rem (53 - l.counter) l.invariant (none-left l.counter c.loop-test.false)) l.invariant.low c.if-rem-root-2.true

pub returns-else-rem-root-2 : goal.returns-else-rem-root-2
returns-else-rem-root-2 c = let l = c.loop in
    down (c.args.m * 2 ^ 52) l.root l.rem (whole c.args.m l.rest l.root l.rem (53 - l.counter) l.invariant (none-left l.counter c.loop-test.false)) c.if-rem-root-2.false (mul-pos c.requires.0 (pow_pos 52))

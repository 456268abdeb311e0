-- The derived order of a `Wide` is that of the number that it holds. Assumes nothing.
use mathlib.Core.Path.{◌≡◌, refl, sym, ap, ◌∙◌}
use mathlib.Core.Bool.{Bool, true, false}
use Prim.Native.Nat.{ℕ, ◌+◌, ◌*◌, ◌≤◌, ◌<◌, compare}
use native.Mathlib.Nat.{le_of_eq, le_of_lt}
use lib.Dec.{ltb}
use borrow.Author.Tests.{lt-ltb, le-ltb, ltb-true, ltb-false}
use Rattle.std.specs.Cmp.{ranks, nat_cmp_is}
use Rattle.std.specs.Ordering.{MatchOrdering, partial_lt, partial_ordering_then, ordering_then, is_some_and, is_lt, nat_cmp}
use Rattle.std.specs.Prelude.{Some}
use Rattle.std.specs.declared.cmp.Ordering.{Ordering as Compared}
use Rattle.std.specs.declared.cmp.Ordering.TheVariants.{Less, Equal, Greater}
use Rattle.decimal.specs.Rounding.{order}
use Rattle.decimal.specs.Wide.{val}
use Rattle.decimal.specs.declared.wide.Wide.{Wide}
use Rattle.decimal.specs.contracts.wide.WidePartialOrd.TheImpl as PO
use Rattle.decimal.specs.contracts.wide.WideOrd.TheImpl as O
use Rattle.decimal.proofs.Round as round
use Rattle.decimal.proofs.Columns.{by_hi, by_mid, by_lo}

-- ---- of two numbers

pub order_nat : (a b : ℕ) → order (nat_cmp a b) ≡ compare a b
order_nat a b = go (nat_cmp a b) (ranks a b)
  where
    go : (r : Compared) → MatchOrdering r (a < b) (a ≡ b) (b < a) → order r ≡ compare a b
    go Less h = sym (round.is_lt a b h)
    go Equal h = sym (round.is_eq a b h)
    go Greater h = sym (round.is_gt a b h)

less_nat : (a b : ℕ) → is_lt (nat_cmp a b) ≡ ltb a b
less_nat a b = go (nat_cmp a b) (ranks a b)
  where
    go : (r : Compared) → MatchOrdering r (a < b) (a ≡ b) (b < a) → is_lt r ≡ ltb a b
    go Less h = sym (lt-ltb a b h)
    go Equal h = sym (le-ltb a b (le_of_eq (sym h)))
    go Greater h = sym (le-ltb a b (le_of_lt h))

-- ---- of three digits each

module _ (x y : Wide) where
  digits : (r s t : Compared) → MatchOrdering r (x.hi < y.hi) (x.hi ≡ y.hi) (y.hi < x.hi) → MatchOrdering s (x.mid < y.mid) (x.mid ≡ y.mid) (y.mid < x.mid) → MatchOrdering t (x.lo < y.lo) (x.lo ≡ y.lo) (y.lo < x.lo)
      → MatchOrdering (ordering_then r (ordering_then s t)) (val x < val y) (val x ≡ val y) (val y < val x)
  unfolding val
  digits Less s t h i j = by_hi x.hi x.mid x.lo y.hi y.mid y.lo x.mid_below x.lo_below h
  digits Greater s t h i j = by_hi y.hi y.mid y.lo x.hi x.mid x.lo y.mid_below y.lo_below h
  digits Equal Less t h i j = by_mid x.hi x.mid x.lo y.hi y.mid y.lo x.lo_below (le_of_eq h) i
  digits Equal Greater t h i j = by_mid y.hi y.mid y.lo x.hi x.mid x.lo y.lo_below (le_of_eq (sym h)) i
  digits Equal Equal Less h i j = by_lo x.hi x.mid x.lo y.hi y.mid y.lo (le_of_eq h) (le_of_eq i) j
  digits Equal Equal Greater h i j = by_lo y.hi y.mid y.lo x.hi x.mid x.lo (le_of_eq (sym h)) (le_of_eq (sym i)) j
  digits Equal Equal Equal h i j = (λ k. (h k * 0x100_0000_0000_0000 + i k) * 0x100_0000_0000_0000 + j k)

  as_numbers : ordering_then (nat_cmp x.hi y.hi) (ordering_then (nat_cmp x.mid y.mid) (nat_cmp x.lo y.lo)) ≡ nat_cmp (val x) (val y)
  as_numbers = nat_cmp_is (val x) (val y) _ (digits (nat_cmp x.hi y.hi) (nat_cmp x.mid y.mid) (nat_cmp x.lo y.lo) (ranks x.hi y.hi) (ranks x.mid y.mid) (ranks x.lo y.lo))

  pub cmp_val : order ((O.cmp-value).it x y) ≡ compare (val x) (val y)
  cmp_val = ap order as_numbers ∙ order_nat (val x) (val y)

  partial : (r s t : Compared) → is_some_and is_lt (partial_ordering_then (Some r) (partial_ordering_then (Some s) (Some t))) ≡ is_lt (ordering_then r (ordering_then s t))
  partial Less s t = refl
  partial Greater s t = refl
  partial Equal Less t = refl
  partial Equal Greater t = refl
  partial Equal Equal t = refl

  pub lt_val : partial_lt (PO.partial_cmp-value).it x y ≡ ltb (val x) (val y)
  lt_val = partial (nat_cmp x.hi y.hi) (nat_cmp x.mid y.mid) (nat_cmp x.lo y.lo) ∙ ap is_lt as_numbers ∙ less_nat (val x) (val y)

  pub below : {r : Bool} → r ≡ partial_lt (PO.partial_cmp-value).it x y → r ≡ true → val x < val y
  below e h = ltb-true (val x) (val y) (sym (e ∙ lt_val) ∙ h)

  pub not_below : {r : Bool} → r ≡ partial_lt (PO.partial_cmp-value).it x y → r ≡ false → val y ≤ val x
  not_below e h = ltb-false (val x) (val y) (sym (e ∙ lt_val) ∙ h)

-- The order of two moments, by seconds and then by nanoseconds, is that of the nanoseconds they count. Assumes nothing.
use Rattle.std.proofs.Common.{◌≡◌, ℕ, ◌<◌, leb, ltb, Some, Ordering, Less, Equal, Greater, sym, refl, ap, ◌∙◌, arith, lt-ltb, le-ltb, le-leb}
use borrow.Author.Tests.{lt-leb}
use Rattle.std.specs.Ordering.{MatchOrdering, nat_cmp, ordering_then, is_le, is_lt, is_some_and, partial_le, partial_lt, partial_ordering_then}
use Rattle.std.specs.Cmp.{ranks, nat_cmp_is}
use Rattle.moment.specs.Time.{nanos_of}
use Rattle.moment.specs.declared.Instant.{Instant}
use Rattle.moment.specs.contracts.InstantPartialOrd.TheImpl.{partial_cmp-value}

module _ (s n t m : ℕ) (h : n < 1000000000) (k : m < 1000000000) where
  both : (p q : Ordering) → MatchOrdering p (s < t) (s ≡ t) (t < s) → MatchOrdering q (n < m) (n ≡ m) (m < n)
      → MatchOrdering (ordering_then p q) (nanos_of s n < nanos_of t m) (nanos_of s n ≡ nanos_of t m) (nanos_of t m < nanos_of s n)
  both Less q a b = omega arith
  both Greater q a b = omega arith
  both Equal Less a b = omega (arith, a, b)
  both Equal Equal a b = omega (arith, a, b)
  both Equal Greater a b = omega (arith, a, b)

  by_count : partial_ordering_then (Some (nat_cmp s t)) (Some (nat_cmp n m)) ≡ Some (nat_cmp (nanos_of s n) (nanos_of t m))
  by_count = then_some (nat_cmp s t) (nat_cmp n m) ∙ ap Some (nat_cmp_is (nanos_of s n) (nanos_of t m) (ordering_then (nat_cmp s t) (nat_cmp n m)) (both (nat_cmp s t) (nat_cmp n m) (ranks s t) (ranks n m)))
    where
      then_some : (p q : Ordering) → partial_ordering_then (Some p) (Some q) ≡ Some (ordering_then p q)
      then_some Less q = refl
      then_some Equal q = refl
      then_some Greater q = refl

module _ (x y : ℕ) where
  le_by : (r : Ordering) → MatchOrdering r (x < y) (x ≡ y) (y < x) → is_le r ≡ leb x y
  le_by Less h = sym (le-leb x y (omega arith))
  le_by Equal h = sym (le-leb x y (omega (arith, h)))
  le_by Greater h = sym (lt-leb x y h)

  lt_by : (r : Ordering) → MatchOrdering r (x < y) (x ≡ y) (y < x) → is_lt r ≡ ltb x y
  lt_by Less h = sym (lt-ltb x y h)
  lt_by Equal h = sym (le-ltb x y (omega (arith, h)))
  lt_by Greater h = sym (le-ltb x y (omega arith))

module _ (e t : Instant) (h : e.nanos < 1000000000) (k : t.nanos < 1000000000) where
  pub le_is : partial_le partial_cmp-value.it e t ≡ leb (nanos_of e.secs e.nanos) (nanos_of t.secs t.nanos)
  le_is = ap (is_some_and is_le) (by_count e.secs e.nanos t.secs t.nanos h k) ∙ le_by _ _ _ (ranks (nanos_of e.secs e.nanos) (nanos_of t.secs t.nanos))

  pub lt_is : partial_lt partial_cmp-value.it e t ≡ ltb (nanos_of e.secs e.nanos) (nanos_of t.secs t.nanos)
  lt_is = ap (is_some_and is_lt) (by_count e.secs e.nanos t.secs t.nanos h k) ∙ lt_by _ _ _ (ranks (nanos_of e.secs e.nanos) (nanos_of t.secs t.nanos))

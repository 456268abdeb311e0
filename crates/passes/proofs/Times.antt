-- Sample times: the range that is accepted, and nanoseconds since 1970 as a signed number. Assumes nothing.
use mathlib.Core.Path.{◌≡◌, refl, sym, ap, ◌∙◌, subst}
use mathlib.Core.Logic.{◌⊎◌, inl, inr}
use mathlib.Core.Bool.{Bool, true, false, ◌&&◌, cond}
use Prim.Native.Nat.{ℕ, suc, ◌+◌, ◌-◌, ◌*◌, ◌≤◌, ◌<◌}
use native.Mathlib.Omega.{arith}
use lib.Dec.{leb, ltb}
use lib.IntN.{ℤ, pos, negsuc, sub_ℕ, ◌-ℤ◌}
use mir.Syntax.{w64}
use mir.Val.{SFits, to_z, of_z}
use mir.ValLaws.{to_z-of_z}
use borrow.Author.Tests.{ltb-true, ltb-false, leb-true, lt-ltb, le-ltb}
use Rattle.laws.proofs.Tests.{false_behind}
use Rattle.moment.specs.Origin.{per_second, reader1970}
use Rattle.moment.specs.Sample.{time_in_range}
use Rattle.moment.proofs.Samples.{sub_both, sub_fits}
use Rattle.passes.specs.Line.{inside, since1970}

-- ---- the range, of a − b for the b of 1970
module _ (a : ℕ) where
  abbrev t : ℤ
  t = sub_ℕ a (reader1970 * per_second)

  early : a < 61757078400000000000 → time_in_range t ≡ false
  unfolding time_in_range
  early h = simp (lt-ltb a (reader1970 * per_second) (omega arith), lt-ltb 410227199999999999 ((reader1970 * per_second) - suc a) (omega arith))

  late : 64912838400000000000 ≤ a → time_in_range t ≡ false
  unfolding time_in_range
  late h = simp (le-ltb a (reader1970 * per_second) (omega arith), le-ltb (a - (reader1970 * per_second)) 2745532800000000000 (omega arith))

  between : 61757078400000000000 ≤ a → a < 64912838400000000000 → time_in_range t ≡ true
  unfolding time_in_range
  between h g = go (ltb a (reader1970 * per_second)) refl
    where
      go : (b : Bool) → ltb a (reader1970 * per_second) ≡ b → time_in_range (cond b (negsuc ((reader1970 * per_second) - suc a)) (pos (a - (reader1970 * per_second)))) ≡ true
      go true e = simp (le-ltb 410227199999999999 ((reader1970 * per_second) - suc a) (omega arith))
      go false e = let k = ltb-false a (reader1970 * per_second) e in lt-ltb (a - (reader1970 * per_second)) 2745532800000000000 (omega arith)

-- ---- what `inside` tests
and_no : (a b : Bool) → a ≡ false → (a && b) ≡ false
and_no a b e = rw e

small_or : (n : ℕ) (b : Bool) → (n ≤ 999999999 → b ≡ false) → (b && leb n 999999999) ≡ false
small_or n b h = go (leb n 999999999) refl
  where
    go : (d : Bool) → leb n 999999999 ≡ d → (b && d) ≡ false
    go true e = and_no b true (h (leb-true n 999999999 e))
    go false e = false_behind b

pub outside_early : (s n : ℕ) → s < 61757078400 → inside s n ≡ false
unfolding inside
outside_early s n h = small_or n (time_in_range (since1970 s n)) (λ (k : n ≤ 999999999). early (s * 1000000000 + n) (omega arith))

pub outside_late : (s n : ℕ) → 64912838400 ≤ s → inside s n ≡ false
unfolding inside
outside_late s n h = and_no (time_in_range (since1970 s n)) (leb n 999999999) (late (s * 1000000000 + n) (omega arith))

pub outside : (s n : ℕ) → (s < 61757078400) ⊎ (64912838400 ≤ s) → inside s n ≡ false
outside s n (inl h) = outside_early s n h
outside s n (inr h) = outside_late s n h

pub inside_is : (s n : ℕ) → 61757078400 ≤ s → s < 64912838400 → leb n 999999999 ≡ inside s n
unfolding inside
inside_is s n h g = go (leb n 999999999) refl
  where
    no : (b : Bool) → false ≡ (b && false)
    no true = refl
    no false = refl

    go : (d : Bool) → leb n 999999999 ≡ d → d ≡ (time_in_range (since1970 s n) && d)
    go true e = let k = leb-true n 999999999 e in sym (ap (λ (b : Bool). b && true) (between (s * 1000000000 + n) (omega arith) (omega arith)))
    go false e = no (time_in_range (since1970 s n))

pub record Inside (s n : ℕ) : Type 0 where
  pub low : 61757078400 ≤ s
  pub high : s < 64912838400
  pub nanos : n ≤ 999999999

pub is_inside : (s n : ℕ) → inside s n ≡ true → Inside s n
is_inside s n e = go (ltb s 61757078400) refl (ltb s 64912838400) refl
  where
    not_both : {A : Type 0} (b : Bool) → b ≡ true → b ≡ false → A
    not_both b p q = let z : ◌≡◌ {A = ℕ} 0 1 = cc in absurd (omega arith)

    go : (a : Bool) → ltb s 61757078400 ≡ a → (b : Bool) → ltb s 64912838400 ≡ b → Inside s n
    go true p b q = not_both (inside s n) e (outside_early s n (ltb-true s 61757078400 p))
    go false p false q = not_both (inside s n) e (outside_late s n (ltb-false s 64912838400 q))
    go false p true q =
        let l = ltb-false s 61757078400 p in
        let h = ltb-true s 64912838400 q in
        record { low = l; high = h; nanos = leb-true n 999999999 (inside_is s n l h ∙ e) }

-- ---- nanoseconds since 1957, and since 1970
pub most : (s n : ℕ) → Inside s n → (s - 61757078400) * 1000000000 + n < 3155760000000000000
most s n i = omega (arith, i.low, i.high, i.nanos)

module _ (s n : ℕ) (e : inside s n ≡ true) where
  abbrev pub m : ℕ
  m = (s - 61757078400) * 1000000000 + n

  since : sub_ℕ m 410227200000000000 ≡ since1970 s n
  since =
      let i = is_inside s n e in
      let h : m + 61757078400000000000 ≡ s * 1000000000 + n = omega (arith, i.low) in
      sym (sub_both m 410227200000000000 61757078400000000000) ∙ ap (λ (k : ℕ). sub_ℕ k (reader1970 * per_second)) h

  -- a number below 2 ^ 63 is read as itself
  read_pos : to_z w64 m ≡ pos m
  read_pos = to_z-of_z w64 (pos m) (record { sfits = omega (arith, most s n (is_inside s n e)) })

  pub shift_fits : SFits w64 (to_z w64 m -ℤ pos 410227200000000000)
  shift_fits = subst (λ (z : ℤ). SFits w64 (z -ℤ pos 410227200000000000)) (sym read_pos) (sub_fits m 410227200000000000 (omega (arith, most s n (is_inside s n e))) (omega arith))

  pub shift : to_z w64 (of_z w64 (to_z w64 m -ℤ pos 410227200000000000)) ≡ since1970 s n
  shift = to_z-of_z w64 (to_z w64 m -ℤ pos 410227200000000000) shift_fits ∙ ap (λ (z : ℤ). z -ℤ pos 410227200000000000) read_pos ∙ since

  -- a time within bounds is kept as it is
  pub kept : {r : ℤ} → r ≡ since1970 s n → to_z w64 (of_z w64 r) ≡ since1970 s n
  kept p = ap (λ (z : ℤ). to_z w64 (of_z w64 z)) p ∙ to_z-of_z w64 (since1970 s n) (subst (SFits w64) since (sub_fits m 410227200000000000 (omega (arith, most s n (is_inside s n e))) (omega arith)))

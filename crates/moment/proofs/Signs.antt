-- The machine's reading of a signed number of seconds. Assumes nothing.
use Rattle.std.proofs.Common.{◌≡◌, suc, ◌+◌, ◌^◌, ◌<◌, ◌≤◌, true, false, T, ℤ, pos, negsuc, ◌+ℤ◌, nat_abs, sym, ap, ◌∙◌, subst, true≢false, add_comm, arith, w64, Fits, SFits, to_z, of_z, ltb-false, ltb-true, le-ltb, le-leb}
use lib.Signed.{le_z, lt_z, non_neg}
use mir.ValLaws.{to_z-of_z}
use Rattle.moment.specs.Origin.{start1970}
use Rattle.moment.specs.Time.{seconds_of}

abbrev pub read : ℤ → ℤ
read z = to_z w64 (of_z w64 z)

module _ (s : ℤ) (f : SFits w64 s) where
  e : read s ≡ s
  e = to_z-of_z w64 s f

-- from 1970 on
cast : (s : ℤ) → SFits w64 s → le_z (pos 0) s ≡ true → T (non_neg s) × Fits w64 (nat_abs s)
cast (pos n) f h = (tt, record { fits = omega (arith, f.sfits) })
cast (negsuc n) f h = absurd (true≢false (sym h))

pub cast_after : (s : ℤ) → SFits w64 s → le_z (pos 0) (read s) ≡ true → T (non_neg (read s)) × Fits w64 (nat_abs (read s))
cast_after s f = subst (λ (z : ℤ). le_z (pos 0) z ≡ true → T (non_neg z) × Fits w64 (nat_abs z)) (sym (e s f)) (cast s f)

add : (s : ℤ) → SFits w64 s → le_z (pos 0) s ≡ true → (nat_abs s + start1970 < 2 ^ 64) × (nat_abs s + start1970 ≡ seconds_of s)
unfolding seconds_of
add (pos n) f h = (omega (arith, f.sfits), add_comm n start1970)
add (negsuc n) f h = absurd (true≢false (sym h))

pub add_after : (s : ℤ) → SFits w64 s → le_z (pos 0) (read s) ≡ true → (nat_abs (read s) + start1970 < 2 ^ 64) × (nat_abs (read s) + start1970 ≡ seconds_of s)
add_after s f = subst (λ (z : ℤ). le_z (pos 0) z ≡ true → (nat_abs z + start1970 < 2 ^ 64) × (nat_abs z + start1970 ≡ seconds_of s)) (sym (e s f)) (add s f)

-- before the origin
gone : (s : ℤ) → lt_z s (negsuc 17592186044415) ≡ true → 0 ≡ seconds_of s
unfolding seconds_of
gone (pos n) h = absurd (true≢false (sym h))
gone (negsuc n) h = omega (arith, ltb-true 17592186044415 n h)

pub gone_before : (s : ℤ) → SFits w64 s → lt_z (read s) (negsuc 17592186044415) ≡ true → 0 ≡ seconds_of s
gone_before s f = subst (λ (z : ℤ). lt_z z (negsuc 17592186044415) ≡ true → 0 ≡ seconds_of s) (sym (e s f)) (gone s)

-- between the two
record Sum (s : ℤ) : Type 0 where
  pub sum : s +ℤ pos start1970 ≡ pos (seconds_of s)
  pub small : seconds_of s < 2 ^ 63

between : (s : ℤ) → le_z (pos 0) s ≡ false → lt_z s (negsuc 17592186044415) ≡ false → Sum s
unfolding seconds_of
between (pos n) h k = absurd (true≢false (sym (le-leb 0 n (omega arith)) ∙ h))
between (negsuc n) h k =
    let l : n ≤ 17592186044415 = ltb-false 17592186044415 n k in
    record { sum = simp (le-ltb start1970 (suc n) (omega arith)); small = omega arith }

sum_between : (s : ℤ) → SFits w64 s → le_z (pos 0) (read s) ≡ false → lt_z (read s) (negsuc 17592186044415) ≡ false → Sum s
sum_between s f = subst (λ (z : ℤ). le_z (pos 0) z ≡ false → lt_z z (negsuc 17592186044415) ≡ false → Sum s) (sym (e s f)) (between s)

-- the sum fits, and is read as it is
pub record Read (s : ℤ) : Type 0 where
  pub fits : SFits w64 (read s +ℤ pos start1970)
  pub is : read (read s +ℤ pos start1970) ≡ pos (seconds_of s)
  pub small : seconds_of s < 2 ^ 63

pub read_between : (s : ℤ) → SFits w64 s → le_z (pos 0) (read s) ≡ false → lt_z (read s) (negsuc 17592186044415) ≡ false → Read s
read_between s f h k =
    let t = sum_between s f h k in
    let p : read s +ℤ pos start1970 ≡ pos (seconds_of s) = ap (λ (z : ℤ). z +ℤ pos start1970) (e s f) ∙ t.sum in
    let g : SFits w64 (pos (seconds_of s)) = record { sfits = t.small } in
    record {
      fits = subst (SFits w64) (sym p) g;
      is = ap read p ∙ to_z-of_z w64 (pos (seconds_of s)) g;
      small = t.small;
    }

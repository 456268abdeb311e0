-- What the tests of a moment that becomes an instant say. Assumes nothing.
use Rattle.std.proofs.Common.{◌≡◌, ℕ, ◌<◌, ◌≤◌, Bool, true, false, not, ◌&&◌, [], ◌∷◌, Ok, Err, ltb, leb, ℤ, sym, refl, ap, subst, arith, ltb-true, le-ltb, lt-ltb, le-leb, leb-true}
use mathlib.Core.Logic.{◌⊎◌, inl, inr}
use borrow.Author.Tests.{lt-leb}
use Rattle.laws.proofs.Tests.{and_true}
use Rattle.moment.specs.Origin.{start1957, start2057}
use Rattle.moment.specs.Time.{seconds_of}
use Rattle.moment.specs.Range.{in_range, given_of, Within}
use Rattle.moment.specs.declared.Instant.{Instant}
use Rattle.refusal.specs.Refusals.{first_of, ◌when◌, answer}
use Rattle.refusal.specs.declared.Refusal.{Refusal}
use Rattle.refusal.specs.declared.Refusal.TheVariants.{MomentRange}

module _ (s : ℤ) (n k : ℕ) (e : k ≡ seconds_of s) where
  early : k < start1957 → in_range s n ≡ false
  unfolding in_range
  early h = simp (lt-leb start1957 (seconds_of s) (subst (λ (x : ℕ). x < start1957) e h))

  late : start1957 ≤ k → start2057 ≤ k → in_range s n ≡ false
  unfolding in_range
  late h l = simp (
    le-leb start1957 (seconds_of s) (subst (λ (x : ℕ). start1957 ≤ x) e h),
    le-ltb (seconds_of s) start2057 (subst (λ (x : ℕ). start2057 ≤ x) e l),
  )

  long : start1957 ≤ k → k < start2057 → 1000000000 ≤ n → in_range s n ≡ false
  unfolding in_range
  long h l m = simp (
    le-leb start1957 (seconds_of s) (subst (λ (x : ℕ). start1957 ≤ x) e h),
    lt-ltb (seconds_of s) start2057 (subst (λ (x : ℕ). x < start2057) e l),
    le-ltb n 1000000000 m,
  )

  pub beyond : ((start1957 ≤ k × k < start2057 × 1000000000 ≤ n) ⊎ (start1957 ≤ k × start2057 ≤ k) ⊎ k < start1957) → Err MomentRange ≡ given_of s n
  unfolding given_of
  beyond (inl h) = simp (long h.0 h.1 h.2)
  beyond (inr (inl h)) = simp (late h.0 h.1)
  beyond (inr (inr h)) = simp (early h)

  pub within : start1957 ≤ k → k < start2057 → n < 1000000000 → Ok (record { secs = k; nanos = n }) ≡ given_of s n
  unfolding given_of in_range
  within h l m = simp (
    e,
    le-leb start1957 (seconds_of s) (subst (λ (x : ℕ). start1957 ≤ x) e h),
    lt-ltb (seconds_of s) start2057 (subst (λ (x : ℕ). x < start2057) e l),
    lt-ltb n 1000000000 m,
  )

-- ---- what a caller learns from the answer
-- a moment that was taken
pub record Is (s : ℤ) (n secs nanos : ℕ) : Type 0 where
  pub yes : in_range s n ≡ true
  pub secs_is : secs ≡ seconds_of s
  pub nanos_is : nanos ≡ n
  pub accepted : Within 0 secs nanos

accepted_at : (s : ℤ) (n : ℕ) → in_range s n ≡ true → Within 0 (seconds_of s) n
unfolding in_range
accepted_at s n h =
    let a = and_true (leb start1957 (seconds_of s)) (ltb (seconds_of s) start2057 && ltb n 1000000000) h in
    let b = and_true (ltb (seconds_of s) start2057) (ltb n 1000000000) a.1 in
    record { low = omega (arith, leb-true start1957 (seconds_of s) a.0); high = omega (arith, ltb-true (seconds_of s) start2057 b.0); part = ltb-true n 1000000000 b.1 }

pub at_is : (s : ℤ) (n : ℕ) (i : Instant) → Ok i ≡ given_of s n → Is s n i.secs i.nanos
unfolding given_of
at_is s n i h = go (in_range s n) refl h
  where
    go : (b : Bool) → in_range s n ≡ b → Ok i ≡ answer {A = Instant} (first_of ((MomentRange when not b) ∷ [])) (record { secs = seconds_of s; nanos = n }) → Is s n i.secs i.nanos
    go true e g =
        let q : ◌≡◌ {A = Instant} i (record { secs = seconds_of s; nanos = n }) = cc in
        record {
          yes = e;
          secs_is = ap (λ (x : Instant). x.secs) q;
          nanos_is = ap (λ (x : Instant). x.nanos) q;
          accepted = subst (λ (x : Instant). Within 0 x.secs x.nanos) (sym q) (accepted_at s n e);
        }
    go false e g = absurd cc

pub outside : (s : ℤ) (n : ℕ) (r : Refusal) → Err r ≡ given_of s n → (r ≡ MomentRange) × (in_range s n ≡ false)
unfolding given_of
outside s n r h = go (in_range s n) refl h
  where
    go : (b : Bool) → in_range s n ≡ b → Err r ≡ answer {A = Instant} (first_of ((MomentRange when not b) ∷ [])) (record { secs = seconds_of s; nanos = n }) → (r ≡ MomentRange) × (in_range s n ≡ false)
    go true e g = absurd cc
    go false e g = (cc, e)

use Rattle.std.proofs.Common.{◌≡◌, ℕ, zero, suc, false, pos, neg_ℤ, refl}
use lib.Ieee.{binary64, of_bits, of_int, round, neg}
use Rattle.float.proofs.Rounding.{neg_round}
use Rattle.moment.proofs.time.back.Goals as goal

ofInt-neg : (m : ℕ) → (m ≡ 0 → ⊥) → neg (of_int binary64 (pos m)) ≡ of_int binary64 (neg_ℤ (pos m))
unfolding of_int
ofInt-neg zero h = absurd (h refl)
ofInt-neg (suc m) h = neg_round binary64 false (suc m) 1

pub returns-then-n-eq0 : goal.returns-then-n-eq0
returns-then-n-eq0 c = simp c.if-n-eq0.true (unfold of_bits of_int round in refl)

pub returns-else-n-eq0 : goal.returns-else-n-eq0
returns-else-n-eq0 c = simp (c.nearest_u64_to_f64.ensures, ofInt-neg _ c.if-n-eq0.false)

use Rattle.std.proofs.Common.{◌≡◌, ℕ, suc, ◌-◌, ◌<◌, ◌≤◌, true, false, pos, ap, ◌∙◌, arith, le-ltb, lt-ltb}
use lib.IntN.{sub_ℕ}
use lib.Ieee.{binary64, neg, of_int, round}
use Rattle.float.proofs.Rounding.{neg_round}
use Rattle.float.proofs.log.difference.Goals as goal

below : (a b : ℕ) → a < b → neg (of_int binary64 (pos (b - a))) ≡ of_int binary64 (sub_ℕ a b)
unfolding of_int
below a b h =
    let e : b - a ≡ suc (b - suc a) = omega arith in
    rw (lt-ltb a b h) (neg_round binary64 false (b - a) 1 ∙ ap (λ (n : ℕ). round binary64 true n 1) e)

above : (a b : ℕ) → b ≤ a → of_int binary64 (pos (a - b)) ≡ of_int binary64 (sub_ℕ a b)
above a b h = rw (le-ltb a b h)

pub returns-then-a-b : goal.returns-then-a-b
returns-then-a-b c = rw c.nearest_u64_to_f64.ensures (below _ _ c.if-a-b.true)

pub returns-else-a-b : goal.returns-else-a-b
returns-else-a-b c = rw c.nearest_u64_to_f64-else-a-b.ensures (above _ _ c.if-a-b.false)

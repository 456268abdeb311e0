-- `Base`'s `try_from` meets its contract. Assumes nothing.
use Rattle.std.proofs.Common.{◌≡◌, refl, ℕ, Bool, ◌&&◌, is_le, nat_cmp, nat_le, arith}
use Rattle.std.proofs.lemmas.Bool.Decides.{nat_tests}
use Rattle.monna.specs.Digits.{is_base}
use Rattle.monna.specs.Answers.{base_refusal}
use Rattle.monna.proofs.base.BaseTryFromU64.try_from.Goals as goal

same : (x y : ℕ) → is_le (nat_cmp x y) ≡ nat_le x y
same x y = grind (arith, nat_tests)

tested : (p : ℕ) (b : Bool) → b ≡ (is_le (nat_cmp 2 p) && is_le (nat_cmp p 7)) → b ≡ is_base p
tested p b e = rw (same 2 p, same p 7) at e

pub returns-then-contains : goal.returns-then-contains
unfolding base_refusal
returns-then-contains c = (rw (← tested _ _ (rw (c.new.ensures.start, c.new.ensures.end, c.new.ensures.exhausted) at c.if-contains.ensures.value)), refl)

pub returns-else-contains : goal.returns-else-contains
unfolding base_refusal
returns-else-contains c = rw (← tested _ _ (rw (c.new.ensures.start, c.new.ensures.end, c.new.ensures.exhausted) at c.if-contains.ensures.value))

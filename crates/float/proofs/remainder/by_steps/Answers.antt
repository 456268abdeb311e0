use Rattle.std.proofs.Common.{◌≡◌, ℕ, ◌+◌, ◌-◌, ◌<◌, T, sym, ◌∙◌, subst, arith}
use native.Mathlib.Nat.{sub-zero}
use lib.Ieee.{of_bits}
use Rattle.float.proofs.Doubling.{Down, no_size, start, few_turns, go_up, turn_down, go_down, at_bottom}
use Rattle.float.proofs.remainder.by_steps.Goals as goal

pub returns-then-not-v : goal.returns-then-not-v
unfolding of_bits
returns-then-not-v c = no_size _ _ c.requires.0 c.requires.1 c.if-not-v.true

pub loop-s-init : goal.loop-s-init
loop-s-init c = start c.args.v c.args.d (subst T (sym c.well_formed.0.1) tt) (subst T (sym c.well_formed.1.0.1) tt) c.requires.0 c.requires.1 c.if-not-v.false

pub overflow_add-n : goal.overflow_add-n
overflow_add-n c = let few = few_turns c.loop-s.invariant in omega arith

pub loop-s-smaller : goal.loop-s-smaller
loop-s-smaller c = let few = few_turns c.loop-s.invariant in omega arith

pub loop-s-preserved : goal.loop-s-preserved
loop-s-preserved c = go_up c.loop-s.invariant (sym c.twice_fits.ensures ∙ c.loop-s-test.true)

next : (n k : ℕ) → k < n → n - k ≡ n - (k + 1) + 1
next n k h = omega arith

pub loop-init : goal.loop-init
loop-init c = rw sub-zero (turn_down c.loop-s.invariant (sym c.twice_fits.ensures ∙ c.loop-s-test.false))

pub loop-preserved : goal.loop-preserved
loop-preserved c = rw c.taken-r.ensures (go_down (subst (λ (k : ℕ). Down c.args.v c.args.d c.loop.r c.loop.s k) (next _ _ c.loop-test.true) c.loop.invariant))

pub returns : goal.returns
returns c = let e : c.loop-s.n - c.loop.counter ≡ 0 = omega arith in at_bottom (subst (λ (k : ℕ). Down c.args.v c.args.d c.loop.r c.loop.s k) e c.loop.invariant)

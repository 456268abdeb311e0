-- `inner::distance_value` meets its contract. Assumes nothing.
use Rattle.std.proofs.Common.{ap, eq-eqb, ne_eqb}
use native.Mathlib.Nat.{div-lt_self}
use Rattle.float.specs.Ops.{◌⊘◌, one, one_bits}
use Rattle.monna.specs.Digits.{distance_of}
use Rattle.monna.proofs.Digits.{count, all_counted, still, gap_pos}
use Rattle.monna.proofs.inner.distance_value.Goals as goal

pub returns-then-a-b : goal.returns-then-a-b
unfolding distance_of
returns-then-a-b c = rw (eq-eqb _ _ c.if-a-b.true)

pub loop-diff-init : goal.loop-diff-init
loop-diff-init c = (rw c.abs_diff-diff.ensures (gap_pos _ _ c.if-a-b.false), record { gives = rw (c.abs_diff-diff.ensures, c.nearest_u64_to_f64-q.ensures, one_bits) })

pub loop-diff-smaller : goal.loop-diff-smaller
loop-diff-smaller c = div-lt_self c.loop-diff.invariant.0 c.args.p.is_base.least

pub loop-diff-preserved : goal.loop-diff-preserved
loop-diff-preserved c =
    let counts = count c.args.p.is_base c.loop-diff.invariant.0 c.loop-diff-test.true c.loop-diff.invariant.1 in
    (still _ _ c.loop-diff-test.true c.loop-diff.invariant.0, counts)

pub returns : goal.returns
unfolding distance_of
returns c = rw (ne_eqb _ _ c.if-a-b.false, one_bits) (ap (λ t. one ⊘ t) (all_counted c.loop-diff-test.false c.loop-diff.invariant.1))

-- `inner::monna_value` meets its contract. Assumes nothing.
use native.Mathlib.Nat.{div-lt_self}
use Rattle.float.specs.Ops.{one_bits}
use Rattle.monna.specs.Digits.{monna_of}
use Rattle.monna.proofs.Digits.{place, all_placed}
use Rattle.monna.proofs.inner.monna_value.Goals as goal

pub loop-val-init : goal.loop-val-init
unfolding monna_of
loop-val-init c = record { gives = simp (c.nearest_u64_to_f64-q.ensures, one_bits) }

pub loop-val-smaller : goal.loop-val-smaller
loop-val-smaller c = div-lt_self c.loop-val-test.true c.args.p.is_base.least

pub loop-val-preserved : goal.loop-val-preserved
loop-val-preserved c =
    place _ _ _ c.args.p.is_base c.loop-val-test.true c.nearest_u64_to_f64-q.ensures c.nearest_u64_to_f64.ensures c.loop-val.invariant

pub returns : goal.returns
returns c = all_placed _ c.loop-val-test.false c.loop-val.invariant

-- `rms` meets its contract. Assumes nothing.
use Rattle.std.proofs.Common.{refl, arith}
use lib.Ieee.{of_bits, div}
use Rattle.loops.proofs.Laws.{begins, again, ends}
use Rattle.command.proofs.Reports.{many_passes, few_centers, mean}
use Rattle.command.proofs.report.rms.Goals as goal

pub returns-then-counts-gt16 : goal.returns-then-counts-gt16
unfolding of_bits div
returns-then-counts-gt16 c = many_passes _ _ _ _ _ _ _ _ _ _ c.if-counts-gt16.true

pub returns-then-centers-counts : goal.returns-then-centers-counts
unfolding of_bits div
returns-then-centers-counts c = few_centers _ _ _ _ _ _ _ _ _ _ c.if-counts-gt16.false c.if-centers-counts.true

pub loop-n-init : goal.loop-n-init
loop-n-init c = (omega arith, c.if-counts-gt16.false, omega arith, omega arith, begins refl)

pub walk_pass-w-requires : goal.walk_pass-w-requires
walk_pass-w-requires c =
    let t = c.loop-n-test.true in
    let i = c.loop-n.invariant in
    (omega (arith, i.1, i.2, t), omega (arith, i.1, i.3, t))

pub loop-n-preserved : goal.loop-n-preserved
loop-n-preserved c =
    let t = c.loop-n-test.true in
    let i = c.loop-n.invariant in
    let e = c.walk_pass-w.ensures in
    (omega (arith, t), i.1, omega (arith, e.1, i.2), omega (arith, e.2, i.3), again t i.4 (rw c.biases_at-b.ensures at e.0))

pub returns : goal.returns
returns c =
    mean _ _ _ _ _ _ _ _ _ _ c.loop-n.invariant.1 c.if-centers-counts.false c.first_center.ensures (ends c.loop-n-test.false c.loop-n.invariant.4) c.nearest_u64_to_f64.ensures c.sqrt.ensures

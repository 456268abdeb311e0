-- `rss` meets its contract. The passes begin where the counts before them end. Assumes nothing.
use mathlib.Core.Path.{refl}
use native.Mathlib.Omega.{arith}
use Rattle.loops.proofs.Laws.{begins, again, ends, loops}
use Rattle.pass_set.proofs.Laws.{first_pass, next_pass, part_fits}
use Rattle.approach.specs.Sums.{rss_of}
use Rattle.approach.proofs.Tables.{pass_sampled, pass_windowed, part_sampled}
use Rattle.approach.proofs.Passes.{pass_added, seen_rss}
use Rattle.approach.proofs.sums.rss.Goals as goal

pub returns-then-set-eq0 : goal.returns-then-set-eq0
unfolding rss_of
returns-then-set-eq0 c = ends (omega arith) (begins refl)

pub bounds-set-0 : goal.bounds-set-0
bounds-set-0 c = search loops

pub overflow_mul-from : goal.overflow_mul-from
overflow_mul-from c = let s = c.args.w.now.set.sound.sizes in omega (arith, s.few)

pub loop-p-init : goal.loop-p-init
unfolding rss_of
loop-p-init c = (first_pass _, begins refl)

pub pass-pass-requires : goal.pass-pass-requires
pass-pass-requires c = (c.loop-p.invariant.0, c.loop-p-test.true)

pub overflow_mul-p : goal.overflow_mul-p
overflow_mul-p c = omega arith

pub overflow_add-from : goal.overflow_add-from
overflow_add-from c =
    let s = c.args.w.now.set.sound in
    omega (arith, part_fits s c.loop-p-test.true c.loop-p.invariant.0, s.sizes.small)

pub pass_sum-sum-requires : goal.pass_sum-sum-requires
pass_sum-sum-requires c =
    let w = c.args.w.now in
    let l = c.loop-p-test.true in
    let q = c.pass-pass.ensures in (
      pass_windowed _ _ _ c.loop-p.p q.times q.freqs (w.tabled.windows c.loop-p.p l),
      part_sampled _ _ c.loop-p.p q.times (pass_sampled _ _ _ _ _ _ c.loop-p.p c.loop-p.k w.set.sound l c.loop-p.invariant.0 w.tabled),
    )

pub overflow_add-k : goal.overflow_add-k
overflow_add-k c =
    let s = c.args.w.now.set.sound in
    omega (arith, part_fits s c.loop-p-test.true c.loop-p.invariant.0, s.sizes.small)

pub loop-p-preserved : goal.loop-p-preserved
loop-p-preserved c =
    let q = c.pass-pass.ensures in
    (next_pass c.loop-p-test.true c.loop-p.invariant.0, again c.loop-p-test.true c.loop-p.invariant.1 (pass_added _ _ _ _ _ _ _ q.times q.freqs _ _ c.pass_sum-sum.ensures))

pub returns : goal.returns
returns c = seen_rss c.seen-v.ensures _ _ _ _ _ (ends c.loop-p-test.false c.loop-p.invariant.1)

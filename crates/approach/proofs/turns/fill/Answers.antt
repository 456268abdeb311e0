-- `fill` meets its contract. Assumes nothing.
use mathlib.Core.Path.{◌≡◌, refl, ◌∙◌}
use native.Mathlib.Omega.{arith}
use lib.ListN.{length}
use Rattle.loops.proofs.Laws.{loops}
use Rattle.pass_set.proofs.Laws.{first_pass, next_pass, part_fits}
use Rattle.approach.proofs.Fill.{windows_none, windows_more, pass_written, tabled, set_none}
use Rattle.approach.proofs.turns.fill.Goals as goal

pub returns-then-set-eq0 : goal.returns-then-set-eq0
returns-then-set-eq0 c = set_none _ _ _ _ _ c.if-set-eq0.true c.args.set.now.sound

pub bounds-set-0 : goal.bounds-set-0
bounds-set-0 c = search loops

pub loop-p-init : goal.loop-p-init
loop-p-init c = (first_pass _, refl, windows_none _ _ _ _ _)

pub pass-pass-requires : goal.pass-pass-requires
pass-pass-requires c = (c.loop-p.invariant.0, c.loop-p-test.true)

pub overflow_mul-p : goal.overflow_mul-p
overflow_mul-p c = omega arith

pub fill_pass-requires : goal.fill_pass-requires
fill_pass-requires c =
    let l = c.loop-p-test.true in
    let few = c.args.set.now.sound.sizes.few in
    (omega (arith, l, few), omega (arith, l, c.loop-p.invariant.1, c.requires))

pub overflow_add-k : goal.overflow_add-k
overflow_add-k c =
    let s = c.args.set.now.sound in
    omega (arith, part_fits s c.loop-p-test.true c.loop-p.invariant.0, s.sizes.small)

pub loop-p-preserved : goal.loop-p-preserved
loop-p-preserved c =
    let i = c.loop-p.invariant in
    let w = pass_written _ _ _ c.loop-p.p c.pass-pass.ensures.times c.pass-pass.ensures.freqs c.fill_pass.ensures in
    (next_pass c.loop-p-test.true i.0, w.kept.same ∙ i.1, windows_more _ _ _ _ c.loop-p.p _ _ w i.2)

pub overflow_mul-set : goal.overflow_mul-set
overflow_mul-set c = let few = c.args.set.now.sound.sizes.few in omega (arith, few)

pub fill_samples-requires : goal.fill_samples-requires
fill_samples-requires c =
    (c.args.set.now.sound.timed, omega (arith, c.loop-p.invariant.1, c.requires))

pub shape_of-table : goal.shape_of-table
shape_of-table c = c.fill_samples.ensures.kept.same ∙ c.loop-p.invariant.1

pub returns : goal.returns
returns c =
    let i = c.loop-p.invariant in
    let e : c.loop-p.p ≡ length c.args.set.now.counts.now = omega (arith, c.loop-p-test.false, i.0.within) in
    let w = c.fill_samples.ensures in
    record { same = w.kept.same ∙ i.1; tabled = tabled _ _ _ _ _ _ c.args.set.now.sound.sizes.few (rw e at i.2) w }

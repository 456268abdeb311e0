use mathlib.Core.Path.{refl, sym, ◌∙◌}
use native.Mathlib.Omega.{arith}
use lib.Ieee.{of_bits, div}
use Rattle.loops.proofs.Laws.{begins, again, ends}
use Rattle.pass_set.proofs.Laws.{sizes}
use Rattle.noise.proofs.Fives.{disagree, agree}
use Rattle.noise.proofs.estimate.Goals as goal

pub returns-then-not-sizes_agree : goal.returns-then-not-sizes_agree
unfolding of_bits div
returns-then-not-sizes_agree c = disagree _ _ _ c.sizes_agree.ensures c.if-not-sizes_agree.true

pub loop-n-init : goal.loop-n-init
loop-n-init c =
    let a = c.sizes_agree in
    (omega arith, (sizes (sym a.ensures ∙ c.if-not-sizes_agree.false)).few, omega arith, begins refl)

pub pass-s-requires : goal.pass-s-requires
pass-s-requires c =
    let i = c.loop-n.invariant in
    let t = c.loop-n-test.true in
    omega (arith, i.1, i.2, t)

pub loop-n-preserved : goal.loop-n-preserved
loop-n-preserved c =
    let i = c.loop-n.invariant in
    let t = c.loop-n-test.true in
    let e = c.pass-s.ensures in
    (omega (arith, t), i.1, omega (arith, e.1, i.2), again t i.3 e.0)

pub returns : goal.returns
returns c =
    agree _ _ _ c.sizes_agree.ensures c.if-not-sizes_agree.false (ends c.loop-n-test.false c.loop-n.invariant.3) c.sqrt.ensures

-- `samples` meets its contract. Assumes nothing.
use mathlib.Core.Path.{refl}
use native.Mathlib.Omega.{arith}
use Rattle.loops.proofs.Laws.{begins, loops}
use Rattle.approach.specs.Sums.{samples_of}
use Rattle.approach.proofs.sums.samples.Goals as goal

pub loop-n-init : goal.loop-n-init
unfolding samples_of
loop-n-init c = (search loops, begins refl)

pub overflow_add-at : goal.overflow_add-at
overflow_add-at c = let p = c.args.pass.now.paired in omega (arith, c.loop-n-test.true, p.few, p.pairs, c.requires.1.small)

pub sample-sum-requires : goal.sample-sum-requires
sample-sum-requires c =
    let p = c.requires in
    (p.0, c.loop-n-test.true, p.1.each c.loop-n.n (omega (arith, c.loop-n-test.true, c.args.pass.now.paired.pairs)))

pub overflow_step-n : goal.overflow_step-n
overflow_step-n c = omega (arith, c.loop-n-test.true, c.args.pass.now.paired.few, c.args.pass.now.paired.pairs)

pub loop-n-smaller : goal.loop-n-smaller
loop-n-smaller c = search loops

pub loop-n-preserved : goal.loop-n-preserved
loop-n-preserved c = search loops

pub returns : goal.returns
returns c = search loops

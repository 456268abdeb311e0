-- `mirror_pass` meets its contract. Assumes nothing.
use mathlib.Core.Path.{refl}
use native.Mathlib.Omega.{arith}
use borrow.Author.Rules.{rules}
use Rattle.received.specs.Mirror.{mirrored}
use Rattle.received.proofs.Mirrors.{begin_pass, next_sample, end_pass}
use Rattle.received.proofs.mirror_pass.Goals as goal

pub loop-f-init : goal.loop-f-init
loop-f-init c = (refl, begin_pass _ _)

pub loop-f-preserved : goal.loop-f-preserved
unfolding mirrored
loop-f-preserved c =
    (search rules, next_sample (omega (arith, c.loop-f-test.true, c.loop-f.invariant.0)) c.loop-f.invariant.1 refl)

pub returns : goal.returns
returns c = end_pass (omega (arith, c.loop-f-test.false, c.loop-f.invariant.0)) c.loop-f.invariant.1

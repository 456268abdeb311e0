-- `rotations` meets its contract. Assumes nothing.
use mathlib.Core.Path.{refl}
use native.Mathlib.Omega.{arith}
use lib.ListN.{length-set}
use borrow.Author.Rules.{rules}
use Rattle.residuals.proofs.Samples.{none_written, one_written, all_written}
use Rattle.residuals.proofs.rotations.Goals as goal

pub loop-k-init : goal.loop-k-init
loop-k-init c = (search rules, refl, none_written _ _)

pub rotation_at-r-requires : goal.rotation_at-r-requires
rotation_at-r-requires c = c.requires.0.each c.loop-k.k c.loop-k-test.true

pub bounds-turns-k-in-loop-k : goal.bounds-turns-k-in-loop-k
bounds-turns-k-in-loop-k c = simp length-set (omega arith)

pub loop-k-preserved : goal.loop-k-preserved
loop-k-preserved c =
    let pre = c.requires in
    (search rules, simp length-set c.loop-k.invariant.1, one_written c.rotation_at-r.result c.loop-k.invariant.2 (omega (arith, pre.2, c.loop-k-test.true)) c.rotation_at-r.ensures)

pub returns : goal.returns
returns c = all_written c.loop-k-test.false c.requires.2 c.loop-k.invariant.2

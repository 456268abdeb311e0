-- `counts_at` meets its contract: what is written, then the counts still to come, are all. Assumes nothing.
use mathlib.Core.Path.{refl}
use native.Mathlib.Omega.{arith}
use mir.Syntax.{w64}
use mir.ValLaws.{to_z-of_z}
use lib.IntN.{pos}
use lib.ListN.{get_or, length-set}
use borrow.Author.Rules.{rules}
use Rattle.residuals.proofs.Samples.{none_counted, one_counted, all_counted}
use Rattle.residuals.proofs.counts_at.Goals as goal

pub loop-k-init : goal.loop-k-init
loop-k-init c = (search rules, refl, none_counted _ _)

pub loop-k-preserved : goal.loop-k-preserved
loop-k-preserved c =
    (search rules, simp length-set c.loop-k.invariant.1, one_counted c.loop-k-test.true (omega (arith, c.loop-k.invariant.1, c.loop-k-test.true, c.requires.1)) c.loop-k.invariant.2 _ (rw (to_z-of_z w64 (get_or c.args.times.now c.loop-k.k (pos 0)) (record { sfits = omega arith })) at c.count_at.ensures))

pub returns : goal.returns
returns c = all_counted c.loop-k.invariant.0 c.loop-k-test.false c.loop-k.invariant.2

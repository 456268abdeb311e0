-- `Table::add_rights` meets its contract. Assumes nothing.
use native.Mathlib.Omega.{arith}
use Rattle.loops.proofs.Laws.{again, ends, loops}
use Rattle.normal.specs.Normal.{add_right, add_rights}
use borrow.Author.Rules.{rules}
use Rattle.normal.proofs.Table.add_rights.Goals as goal

pub loop-c1-init : goal.loop-c1-init
unfolding add_rights
loop-c1-init c = search loops

pub loop-c1-preserved : goal.loop-c1-preserved
unfolding add_right
loop-c1-preserved c = (search rules, again (search rules) c.loop-c1.invariant.1 (simp c.entry.ensures))

pub returns : goal.returns
returns c = ends (omega (arith, c.loop-c1-test.false, c.loop-c1.invariant.0)) c.loop-c1.invariant.1

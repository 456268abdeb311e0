-- `Augmented::eliminate_row` meets its contract. Assumes nothing.
use mathlib.Core.Path.{refl}
use Rattle.loops.proofs.Laws.{begins, again, loops}
use Rattle.linear.specs.Elimination.{eliminate_entry, eliminate_row}
use Rattle.linear.proofs.Augmented.eliminate_row.Goals as goal

pub loop-c-init : goal.loop-c-init
unfolding eliminate_row
loop-c-init c = (refl, begins (simp (c.entry.ensures, c.entry-2.ensures)))

pub loop-c-preserved : goal.loop-c-preserved
unfolding eliminate_entry
loop-c-preserved c =
    let same = c.loop-c.invariant.0 in
    (same, again c.loop-c-test.true c.loop-c.invariant.1 (simp (c.cell-p.ensures.0, c.entry-in-loop-c.ensures, same)))

pub returns-clause-after : goal.returns-clause-after
returns-clause-after c = search loops

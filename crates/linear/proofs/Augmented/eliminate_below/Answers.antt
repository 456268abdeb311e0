-- `Augmented::eliminate_below` meets its contract. Assumes nothing.
use mathlib.Core.Path.{◌∙◌}
use Rattle.loops.proofs.Laws.{again, loops}
use Rattle.linear.specs.Elimination.{eliminate_below}
use Rattle.linear.proofs.Augmented.eliminate_below.Goals as goal

pub loop-r-init : goal.loop-r-init
unfolding eliminate_below
loop-r-init c = search loops

pub loop-r-preserved : goal.loop-r-preserved
loop-r-preserved c =
    let same = c.loop-r.invariant.0 in
    (c.eliminate_row.ensures.size ∙ same, again c.loop-r-test.true c.loop-r.invariant.1 (rw same at c.eliminate_row.ensures.after))

pub returns-clause-after : goal.returns-clause-after
returns-clause-after c = search loops

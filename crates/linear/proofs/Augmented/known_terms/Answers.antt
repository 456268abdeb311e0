-- `Augmented::known_terms` meets its contract. Assumes nothing.
use Rattle.loops.proofs.Laws.{again, loops}
use Rattle.linear.specs.Elimination.{add_term}
use Rattle.linear.proofs.Augmented.known_terms.Goals as goal

pub loop-c-preserved : goal.loop-c-preserved
unfolding add_term
loop-c-preserved c = again c.loop-c-test.true c.loop-c.invariant (simp c.entry.ensures)

pub returns : goal.returns
returns c = search loops

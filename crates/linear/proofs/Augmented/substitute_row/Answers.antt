-- `Augmented::substitute_row` meets its contract. Assumes nothing.
use Rattle.linear.specs.Elimination.{substitute_row}
use Rattle.linear.proofs.Augmented.substitute_row.Goals as goal

pub returns : goal.returns
unfolding substitute_row
returns c = simp (c.entry.ensures, c.entry-2.ensures, c.known_terms-s.ensures)

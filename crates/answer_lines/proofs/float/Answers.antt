-- `answer_lines::float` meets its contract. Assumes nothing.
use Rattle.answer_lines.specs.Lines.{float_field}
use Rattle.answer_lines.proofs.float.Goals as goal

pub returns : goal.returns
unfolding float_field
returns c = simp (c.field.ensures, c.float.ensures)

-- `answer_lines::field` meets its contract. Assumes nothing.
use Rattle.answer_lines.specs.Lines.{field_at}
use Rattle.answer_lines.proofs.field.Goals as goal

pub returns : goal.returns
unfolding field_at
returns c = simp (c.from.ensures, c.word.ensures)

-- `answer_lines::refused` meets its contract. Assumes nothing.
use Rattle.answer_lines.proofs.refused.Goals as goal

pub returns : goal.returns
returns c = simp c.field.ensures

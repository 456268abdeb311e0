-- `answer_lines::float_is` meets its contract. Assumes nothing.
use Rattle.answer_lines.proofs.float_is.Goals as goal

pub returns : goal.returns
returns c = simp (c.field.ensures, c.bits.ensures)

-- `answer_lines::vec3` meets its contract. Assumes nothing.
use Rattle.answer_lines.proofs.vec3.Goals as goal

pub returns : goal.returns
returns c = simp (c.float.ensures, c.float-2.ensures, c.float-3.ensures)

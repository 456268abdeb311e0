-- `biases_at` meets its contract. Assumes nothing.
use Rattle.command.proofs.report.biases_at.Goals as goal

pub returns : goal.returns
returns c = simp (c.number_at-4.ensures, c.number_at-3.ensures, c.number_at-2.ensures, c.number_at.ensures)

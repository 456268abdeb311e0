-- `square` meets its contract. Assumes nothing.
use Rattle.command.specs.Report.{square_of}
use Rattle.command.proofs.report.square.Goals as goal

pub returns : goal.returns
unfolding square_of
returns c = simp (c.residual-r.ensures, c.number_at.ensures, c.moment_at.ensures)

-- `residual` meets its contract. Assumes nothing.
use Rattle.command.specs.Report.{residual_of}
use Rattle.command.proofs.report.residual.Goals as goal

pub returns : goal.returns
unfolding residual_of
returns c = simp (c.frequency.ensures, c.predict_frequency_poly-p.ensures)

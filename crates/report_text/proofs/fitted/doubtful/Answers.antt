use Rattle.append.proofs.Appending.{both}
use Rattle.report_text.specs.Fitted.{ratio_line}
use Rattle.report_text.proofs.fitted.doubtful.Goals as goal

pub returns : goal.returns
unfolding ratio_line
returns c =
    both c.put.ensures (both c.real.ensures c.put-2.ensures)

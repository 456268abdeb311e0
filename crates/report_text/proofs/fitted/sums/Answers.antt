use Rattle.append.proofs.Appending.{both}
use Rattle.report_text.specs.Fitted.{sums_of}
use Rattle.report_text.proofs.fitted.sums.Goals as goal

pub returns : goal.returns
unfolding sums_of
returns c =
    both c.put.ensures (both c.real.ensures (both c.put-2.ensures (both c.real-2.ensures c.put-3.ensures)))

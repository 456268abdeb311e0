use Rattle.append.proofs.Appending.{both}
use Rattle.report_text.specs.Fitted.{pass_line}
use Rattle.report_text.proofs.fitted.pass.Goals as goal

pub returns : goal.returns
unfolding pass_line
returns c =
    both c.put.ensures (both c.put-2.ensures (both c.clock.ensures (both c.offset.ensures c.drift.ensures)))

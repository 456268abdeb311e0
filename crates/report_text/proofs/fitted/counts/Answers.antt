use Rattle.append.proofs.Appending.{both}
use Rattle.report_text.specs.Fitted.{counts_of}
use Rattle.report_text.proofs.fitted.counts.Goals as goal

pub returns : goal.returns
unfolding counts_of
returns c =
    both c.put.ensures (both c.put_number.ensures (both c.put-2.ensures (both c.put_number-2.ensures (both c.put-3.ensures (both c.put_number-3.ensures c.put-4.ensures)))))

use Rattle.append.proofs.Appending.{both}
use Rattle.report_text.specs.Number.{size_text}
use Rattle.report_text.proofs.number.size.Goals as goal

pub returns : goal.returns
unfolding size_text
returns c =
    both c.put_number.ensures (both c.put.ensures c.six.ensures)

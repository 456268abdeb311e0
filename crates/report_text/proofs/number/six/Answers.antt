use Rattle.append.proofs.Appending.{both}
use Rattle.report_text.specs.Number.{six_of}
use Rattle.report_text.proofs.number.six.Goals as goal

pub returns : goal.returns
unfolding six_of
returns c =
    both c.three.ensures c.three-2.ensures

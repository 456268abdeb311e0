use Rattle.append.proofs.Appending.{both}
use Rattle.report_text.specs.Fitted.{fit_text}
use Rattle.report_text.proofs.fitted.fit.Goals as goal

pub returns : goal.returns
unfolding fit_text
returns c =
    both c.counts.ensures c.sums.ensures

use Rattle.append.proofs.Appending.{both}
use Rattle.report_text.specs.Fitted.{noise_of}
use Rattle.report_text.proofs.fitted.noise.Goals as goal

pub returns : goal.returns
unfolding noise_of
returns c =
    both c.put.ensures (both c.real.ensures (both c.put-2.ensures (both c.real-2.ensures (both c.put-3.ensures c.finding.ensures))))

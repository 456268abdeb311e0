use Rattle.append.proofs.Appending.{both}
use Rattle.moment.specs.Time.{million_bits, thousand_bits}
use Rattle.report_text.specs.Fitted.{drift_text}
use Rattle.report_text.proofs.Pieces.{scaled}
use Rattle.report_text.proofs.fitted.drift.Goals as goal

pub returns : goal.returns
unfolding drift_text
returns c =
    both c.put.ensures (both (scaled _ thousand_bits c.real.ensures) (both c.put-2.ensures (both (scaled _ million_bits c.real-2.ensures) c.put-3.ensures)))

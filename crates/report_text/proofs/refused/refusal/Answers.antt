use Rattle.append.proofs.Appending.{both}
use Rattle.report_text.specs.Sentences.{refusal_line}
use Rattle.report_text.proofs.refused.refusal.Goals as goal

pub returns : goal.returns
unfolding refusal_line
returns c =
    both c.put.ensures c.numbered.ensures

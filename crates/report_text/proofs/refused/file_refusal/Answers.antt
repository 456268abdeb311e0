use Rattle.append.proofs.Appending.{both}
use Rattle.report_text.specs.Sentences.{file_refusal_of}
use Rattle.report_text.proofs.refused.file_refusal.Goals as goal

pub returns : goal.returns
unfolding file_refusal_of
returns c =
    both c.put.ensures (both c.put-2.ensures (both c.line.ensures c.numbered.ensures))

use mathlib.Core.Path.{ap}
use Rattle.append.proofs.Appending.{both, called}
use Rattle.append.specs.Append.{numeral}
use Rattle.report_text.specs.Sentences.{numbered_of}
use Rattle.report_text.proofs.refused.numbered.Goals as goal

pub returns : goal.returns
unfolding numbered_of
returns c =
    both c.put.ensures (both (called (ap numeral c.number.ensures) c.put_number.ensures) (both c.put-2.ensures (both c.sentence.ensures c.put-3.ensures)))

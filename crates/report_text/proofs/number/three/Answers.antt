use Rattle.report_text.specs.Number.{three_of}
use Rattle.report_text.proofs.number.three.Goals as goal

pub returns : goal.returns
unfolding three_of
returns c = rw (← c.digit.ensures, ← c.digit-2.ensures, ← c.digit-3.ensures) c.put.ensures

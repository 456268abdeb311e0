use Rattle.append.proofs.Appending.{both, none}
use Rattle.report_text.specs.Sentences.{line_text}
use Rattle.report_text.proofs.refused.line.Goals as goal

pub returns-in-Some : goal.returns-in-Some
unfolding line_text
returns-in-Some c = rw (c.in-Some.is) (both c.put.ensures (both c.put_number.ensures c.put-in-Some.ensures))

pub returns-in_default : goal.returns-in_default
unfolding line_text
returns-in_default c = rw (c.in_default.is) (none _)

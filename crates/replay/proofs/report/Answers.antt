use borrow.Author.Rules.{rules}
use Rattle.replay.proofs.Reporting.{reports}
use Rattle.replay.proofs.report.Goals as goal

pub returns : goal.returns
returns c = rw c.len.ensures (reports _ _ (search rules) c.new-text.ensures.begins c.put_report.ensures)

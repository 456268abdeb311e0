use borrow.Author.Rules.{rules}
use Rattle.append.proofs.Appending.{both}
use Rattle.replay.specs.Report.{report_text}
use Rattle.replay.proofs.put_report.Goals as goal

pub returns : goal.returns
unfolding report_text
returns c = search (both, rules)

use borrow.Author.Rules.{rules}
use Rattle.append.proofs.Appending.{both}
use Rattle.check_line.specs.Check.{accepted_line}
use Rattle.check_line.proofs.accepted.Goals as goal

pub returns : goal.returns
unfolding accepted_line
returns c = search (both, rules)

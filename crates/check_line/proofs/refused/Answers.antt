use borrow.Author.Rules.{rules}
use Rattle.append.proofs.Appending.{both}
use Rattle.check_line.specs.Check.{refused_line}
use Rattle.check_line.proofs.refused.Goals as goal

pub returns : goal.returns
unfolding refused_line
returns c = search (both, rules)

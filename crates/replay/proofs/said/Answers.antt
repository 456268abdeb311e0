use borrow.Author.Rules.{rules}
use Rattle.append.proofs.Appending.{both}
use Rattle.replay.proofs.said.Goals as goal

pub returns : goal.returns
returns c = search (both, rules)

use borrow.Author.Rules.{rules}
use Rattle.append.proofs.Appending.{both}
use Rattle.elements_shown.proofs.put_item.Goals as goal

pub returns : goal.returns
returns c = search (both, rules)

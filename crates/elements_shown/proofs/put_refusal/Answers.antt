use borrow.Author.Rules.{rules}
use Rattle.append.proofs.Appending.{both}
use Rattle.elements_shown.specs.Shown.{refusal_shown}
use Rattle.elements_shown.proofs.put_refusal.Goals as goal

pub returns : goal.returns
unfolding refusal_shown
returns c = search (both, rules)

use Rattle.elements_shown.proofs.Showing.{no_line, second_is}
use Rattle.elements_shown.proofs.second_line.Goals as goal

pub returns-then-text-eq0 : goal.returns-then-text-eq0
returns-then-text-eq0 c = no_line 1 _ c.if-text-eq0.true

pub returns : goal.returns
returns c = second_is _ _ _ _ c.line-next.ensures c.first_line.ensures

use Rattle.elements_shown.proofs.Showing.{no_line, first_is, first_counted}
use Rattle.elements_shown.proofs.first_line.Goals as goal

pub returns-then-text-eq0 : goal.returns-then-text-eq0
returns-then-text-eq0 c = no_line 0 _ c.if-text-eq0.true

pub slice_bounds-result-end : goal.slice_bounds-result-end
slice_bounds-result-end c = first_counted _ _ _ c.line-n.ensures

pub returns : goal.returns
returns c = first_is _ _ _ c.line-n.ensures

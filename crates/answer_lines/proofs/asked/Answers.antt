-- `answer_lines::asked` meets its contract. Assumes nothing.
use mathlib.Core.Path.{sym}
use lib.Seq.{length-take-le}
use Rattle.answer_lines.proofs.Laws.{asked_is}
use Rattle.answer_lines.proofs.asked.Goals as goal

pub slice_bounds-before-end : goal.slice_bounds-before-end
slice_bounds-before-end c = sym (length-take-le c.find-end.result c.args.line.now c.find-end.ensures.1)

pub returns : goal.returns
returns c = asked_is c.args.line.now c.find-end.result c.find-start.result c.find-end.ensures.0 c.find-start.ensures.0

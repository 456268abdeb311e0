-- `answer_lines::fill` meets its contract. Assumes nothing.
use Rattle.answer_lines.proofs.Laws.{Filling}
use Rattle.answer_lines.proofs.fill.Given as goal

abbrev pub invariant-loop-i : goal.invariant-loop-i
invariant-loop-i g l = Filling (g.T.Element.read l.fields) g.T.Element.none l.initial.out l.out l.i

-- `answer_lines::elements_are` meets its contract. Assumes nothing.
use Rattle.std.proofs.Common.{◌∙◌, rules, tests}
use Rattle.std.proofs.lemmas.Iterator.{YieldsList-from_slice}
use Rattle.std.proofs.lemmas.Iterator.Consumers.{YieldsList-from_enumerate}
use Rattle.std.proofs.lemmas.Iterator.Search.{all_from_yields_List}
use Rattle.answer_lines.proofs.Laws.{every_is}
use Rattle.answer_lines.proofs.elements_are.Goals as goal

pub returns : goal.returns
returns g c =
    let x = c.args.x.now in
    let is = g.T.Element.is c.args.fields.now in
    all_from_yields_List (λ p. is p.0 p.1) _ _ c.all.result c.all.ensures.ran (YieldsList-from_enumerate (YieldsList-from_slice x cc) cc) (λ p b q k. search (rules, tests))
    ∙ every_is is x 0

use Rattle.std.proofs.Common.{rules, tests, ◌∙◌}
use Rattle.std.proofs.lemmas.Iterator.{YieldsList-from_slice}
use Rattle.std.proofs.lemmas.Iterator.Search.{all_from_yields_List}
use borrow.Author.Tests.{le-leb, lt-leb}
use Rattle.tle.specs.Answer.{visible_byte, name_fits}
use Rattle.tle.proofs.Tests.{all_visible}
use Rattle.tle.proofs.elements.accepted_name.Goals as goal

pub returns-then-name-le-LONGEST_NAME : goal.returns-then-name-le-LONGEST_NAME
unfolding name_fits
returns-then-name-le-LONGEST_NAME c =
    simp (le-leb _ _ c.if-name-le-LONGEST_NAME.true)
    (all_from_yields_List visible_byte _ _ c.all.result c.all.ensures.ran (YieldsList-from_slice c.args.name.now cc) (λ x b q k. search (rules, tests))
    ∙ all_visible c.args.name.now)

pub returns-else-name-le-LONGEST_NAME : goal.returns-else-name-le-LONGEST_NAME
unfolding name_fits
returns-else-name-le-LONGEST_NAME c = simp (lt-leb _ _ c.if-name-le-LONGEST_NAME.false)

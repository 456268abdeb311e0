-- `passes::pieces::trim_end` meets its contract: the library counts the blanks from the end back. Assumes nothing.
use Rattle.std.proofs.Common.{◌∙◌, reverse, rules, tests}
use Rattle.std.proofs.lemmas.Iterator.Adapters.{YieldsList-from_rev_slice}
use Rattle.std.proofs.lemmas.Iterator.Consumers.{count_from_yields_List}
use Rattle.std.proofs.lemmas.Iterator.Search.{YieldsList-from_take_while}
use Rattle.std.proofs.lemmas.List.Folds.{length-prefix_len}
use Rattle.passes.specs.Text.{blank}
use Rattle.passes.proofs.Texts.{trims_to}
use Rattle.passes.proofs.pieces.trim_end.Goals as goal

pub returns : goal.returns
returns c =
    let l = c.args.l.now in
    trims_to l _
    (count_from_yields_List c.take_while.result _ c.count.ensures.ran
    (YieldsList-from_take_while _ blank (YieldsList-from_rev_slice l cc) c.take_while.ensures.closure c.take_while.ensures.done (λ x b q k. search (rules, tests)))
    ∙ length-prefix_len blank (reverse l))

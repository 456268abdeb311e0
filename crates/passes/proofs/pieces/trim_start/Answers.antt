-- `passes::pieces::trim_start` meets its contract: the library counts the blanks as the definition does. Assumes nothing.
use Rattle.std.proofs.Common.{sym, ◌∙◌, arith, rules, tests}
use Rattle.std.proofs.lemmas.Iterator.{YieldsList-from_slice}
use Rattle.std.proofs.lemmas.Iterator.Consumers.{count_from_yields_List}
use Rattle.std.proofs.lemmas.Iterator.Search.{YieldsList-from_take_while}
use Rattle.std.proofs.lemmas.List.Folds.{length-prefix_len}
use Rattle.std.proofs.lemmas.List.Sums.{prefix_len-le-length}
use Rattle.passes.specs.Text.{blank}
use Rattle.passes.proofs.Texts.{blanks_is}
use Rattle.passes.proofs.pieces.trim_start.Goals as goal

pub returns : goal.returns
returns c =
    let l = c.args.l.now in
    let e =
    count_from_yields_List c.take_while.result _ c.count.ensures.ran
    (YieldsList-from_take_while _ blank (YieldsList-from_slice l cc) c.take_while.ensures.closure c.take_while.ensures.done (λ x b q k. search (rules, tests)))
    ∙ length-prefix_len blank l in
    record { inside = omega (arith, prefix_len-le-length blank l); is = e ∙ sym (blanks_is l) }

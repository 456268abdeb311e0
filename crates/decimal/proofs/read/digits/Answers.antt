-- `decimal::read::digits` meets its contract: the library counts the digits as the definition does. Assumes nothing.
use Rattle.std.proofs.Common.{drop, sym, ◌∙◌, arith, rules, tests}
use Rattle.std.proofs.lemmas.Iterator.{YieldsList-from_slice}
use Rattle.std.proofs.lemmas.Iterator.Consumers.{count_from_yields_List}
use Rattle.std.proofs.lemmas.Iterator.Search.{YieldsList-from_take_while}
use Rattle.std.proofs.lemmas.List.Folds.{length-prefix_len}
use Rattle.std.proofs.lemmas.List.Sums.{prefix_len-le-length}
use lib.ListN.{length-drop}
use lib.Seq.{take_all}
use Rattle.decimal.specs.Read.{is_digit}
use Rattle.decimal.proofs.Scan.{run_is}
use Rattle.decimal.proofs.read.digits.Goals as goal

pub returns : goal.returns
returns c =
    let l = drop c.args.at c.args.l.now in
    let e =
    count_from_yields_List c.take_while.result _ c.count.ensures.ran
    (YieldsList-from_take_while _ is_digit (YieldsList-from_slice l (rw (c.take_while.ensures.source, c.iter.ensures.rest) (take_all _ l (omega (arith, length-drop c.args.at c.args.l.now))))) c.take_while.ensures.closure c.take_while.ensures.done (λ x b q k. search (rules, tests)))
    ∙ length-prefix_len is_digit l in
    let n = prefix_len-le-length is_digit l in
    (e ∙ sym (run_is l), omega (arith, length-drop c.args.at c.args.l.now))

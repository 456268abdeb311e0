-- `any_nan` meets its contract. Assumes nothing.
use Rattle.std.proofs.Common.{sym, ◌∙◌, rules, tests}
use Rattle.std.proofs.lemmas.Iterator.{YieldsList-from_slice}
use Rattle.std.proofs.lemmas.Iterator.Search.{any_from_yields_List}
use lib.Ieee.{is_nan}
use Rattle.arguments.proofs.Walks.{nan_any}
use Rattle.arguments.proofs.any_nan.Goals as goal

pub returns : goal.returns
returns c =
    any_from_yields_List is_nan _ _ c.any.result c.any.ensures.ran (YieldsList-from_slice c.args.freqs.now c.iter.ensures.rest) (λ x b q k. search (rules, tests))
    ∙ sym (nan_any c.args.freqs.now)

-- `nan_pass` meets its contract. Assumes nothing.
use Rattle.std.proofs.Common.{arith, ℕ, Bool, rules, tests, refl, sym, ◌∙◌, length}
use Rattle.std.proofs.lemmas.Iterator.{YieldsList-from_range}
use Rattle.std.proofs.lemmas.Iterator.Adapters.{option_map_id}
use Rattle.std.proofs.lemmas.Iterator.Search.{find_from_yields_List}
use Rattle.pass_set.specs.PassSet.{pass_of}
use Rattle.arguments.specs.Refusals.{any_nan}
use Rattle.pass_checks.specs.Checks.{nan_pass}
use Rattle.pass_checks.proofs.Walks.{first_is}
use Rattle.pass_checks.proofs.nan_pass.Goals as goal

pub returns : goal.returns
unfolding nan_pass
returns c =
    let counts = c.args.counts.now in
    let test : ℕ → Bool = λ p. any_nan (pass_of counts p c.args.freqs.now) in
    sym (option_map_id c.find.result)
    ∙ find_from_yields_List test _ _ c.find.result c.find.ensures.ran (YieldsList-from_range 0 (length counts) (length counts) refl (omega arith)) (λ x b q k. search (rules, tests))
    ∙ first_is test 0 (length counts)

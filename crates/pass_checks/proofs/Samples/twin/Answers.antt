-- `Samples::twin` meets its contract. Assumes nothing.
use Rattle.std.proofs.Common.{arith, ℕ, Bool, rules, tests, refl, sym, ◌∙◌}
use Rattle.std.proofs.lemmas.Iterator.{YieldsList-from_range}
use Rattle.std.proofs.lemmas.Iterator.Adapters.{option_map_id}
use Rattle.std.proofs.lemmas.Iterator.Search.{find_from_yields_List}
use Rattle.pass_checks.specs.Checks.{alike, twin_of}
use Rattle.pass_checks.proofs.Walks.{first_is}
use Rattle.pass_checks.proofs.Samples.twin.Goals as goal

pub returns : goal.returns
unfolding twin_of
returns c =
    let a = c.args in
    let test : ℕ → Bool = λ p. alike a.self.now.counts.now a.self.now.times.now a.self.now.freqs.now p a.q in
    sym (option_map_id c.find.result)
    ∙ find_from_yields_List test _ _ c.find.result c.find.ensures.ran (YieldsList-from_range 0 a.q a.q refl (omega arith)) (λ x b q k. search (rules, tests))
    ∙ first_is test 0 a.q

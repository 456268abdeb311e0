-- `all_in_range` meets its contract. Assumes nothing.
use Rattle.std.proofs.Common.{rules, tests, ◌∙◌}
use Rattle.std.proofs.lemmas.Iterator.{YieldsList-from_slice}
use Rattle.std.proofs.lemmas.Iterator.Search.{all_from_yields_List}
use Rattle.moment.specs.Sample.{time_in_range}
use Rattle.moment.proofs.Samples.{all_times}
use Rattle.moment.proofs.sample.all_in_range.Goals as goal

pub returns : goal.returns
returns c =
    all_from_yields_List time_in_range _ _ c.all.result c.all.ensures.ran (YieldsList-from_slice c.args.times.now cc) (λ x b q k. search (rules, tests))
    ∙ all_times c.args.times.now

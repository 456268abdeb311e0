-- `answer_lines::occurs_in` meets its contract: some place of the table has the name. Assumes nothing.
use Rattle.std.proofs.Common.{ℕ, length, drop, ap, ◌∙◌, zero-add, rules, tests}
use native.Mathlib.Nat.{sub-zero}
use Rattle.std.proofs.lemmas.Iterator.{YieldsList-from_range}
use Rattle.std.proofs.lemmas.Iterator.Search.{any_from_yields_List}
use Rattle.answer_lines.specs.Lines.{begins_with}
use Rattle.answer_lines.proofs.Laws.{occurs_is}
use Rattle.answer_lines.proofs.occurs_in.Goals as goal

pub returns : goal.returns
returns c =
    let name = c.args.name.now in
    let table = c.args.table.now in
    let test = λ (i : ℕ). begins_with name (drop i table) in
    any_from_yields_List test _ _ c.any.result c.any.ensures.ran (YieldsList-from_range 0 (length table) (length table) (cc) (sub-zero (length table))) (λ i b q k. search (rules, tests))
    ∙ occurs_is name table test 0 (λ i. ap (λ (k : ℕ). begins_with name (drop k table)) (zero-add i))

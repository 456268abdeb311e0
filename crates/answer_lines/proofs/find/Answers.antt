-- `answer_lines::find` meets its contract: the library finds the byte that the definition does. Assumes nothing.
use Rattle.std.proofs.Common.{ℕ, eqb, refl, rules, tests}
use Rattle.std.proofs.lemmas.Iterator.{YieldsList-from_slice}
use Rattle.std.proofs.lemmas.Iterator.Search.{position_from_yields_List}
use Rattle.laws.proofs.Places.{position_found}
use Rattle.answer_lines.specs.Lines.{first_place}
use Rattle.answer_lines.proofs.find.Goals as goal

pub returns : goal.returns
unfolding first_place
returns c =
    let l = c.args.text.now in
    let p = λ (x : ℕ). eqb x c.args.byte in
    position_found c.args.byte (first_place c.args.byte) refl (λ x m. refl) l c.position.result
    (position_from_yields_List p c.position.new.self _ _ c.position.ensures.ran (YieldsList-from_slice l cc) (λ x b q k. search (rules, tests)))
    c.unwrap_or.ensures

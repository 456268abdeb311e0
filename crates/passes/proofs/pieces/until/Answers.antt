-- `passes::pieces::until` meets its contract: the library finds the byte that the definition does. Assumes nothing.
use Rattle.std.proofs.Common.{ℕ, eqb, refl, rules, tests}
use Rattle.std.proofs.lemmas.Iterator.{YieldsList-from_slice}
use Rattle.std.proofs.lemmas.Iterator.Search.{position_from_yields_List}
use Rattle.laws.proofs.Places.{position_found}
use Rattle.passes.specs.Text.{until}
use Rattle.passes.proofs.pieces.until.Goals as goal

pub returns : goal.returns
unfolding until
returns c =
    let l = c.args.l.now in
    let p = λ (x : ℕ). eqb x c.args.b in
    let at = position_found c.args.b (until c.args.b) refl (λ x m. refl) l c.position.result
    (position_from_yields_List p c.position.new.self _ _ c.position.ensures.ran (YieldsList-from_slice l cc) (λ x b q k. search (rules, tests)))
    c.unwrap_or.ensures in
    record { inside = at.1; is = at.0 }

use Rattle.std.proofs.Common.{rules, tests, ◌∙◌, [], ◌∷◌}
use Rattle.std.proofs.lemmas.Iterator.{YieldsList-from_slice}
use Rattle.std.proofs.lemmas.Iterator.Search.{all_from_yields_List}
use lib.Ieee.{Float, ne}
use mathlib.Core.Bool.{Bool}
use Rattle.float.specs.Ops.{bits}
use Rattle.noise.proofs.Fives.{apart_all}
use Rattle.noise.proofs.apart.Goals as goal

pub returns : goal.returns
returns c =
    let p = c.args.p in
    let test : Float → Bool = λ x. ne x (bits 0) in
    all_from_yields_List test _ _ c.all.result c.all.ensures.ran (YieldsList-from_slice (p.a ∷ p.b ∷ p.c ∷ p.d ∷ p.e ∷ []) cc) (λ x b q k. search (rules, tests))
    ∙ apart_all p

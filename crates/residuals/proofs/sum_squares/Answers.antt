-- `sum_squares` meets its contract: the library adds in the definition's order, from -0.0 on. Assumes nothing.
use mathlib.Core.Path.{◌∙◌}
use Rattle.std.proofs.Common.{rules, tests}
use Rattle.std.proofs.lemmas.Iterator.{YieldsList-from_slice, YieldsList-from_map}
use Rattle.std.proofs.lemmas.Iterator.Adapters.{total_from_yields_List}
use lib.Ieee.{Float}
use Rattle.float.specs.Ops.{◌⊕◌, ◌⊗◌}
use Rattle.residuals.proofs.Laws.{squares_fold}
use Rattle.residuals.proofs.sum_squares.Goals as goal

pub returns : goal.returns
returns c =
    total_from_yields_List (λ (a x : Float). a ⊕ x) _ _ c.sum.ensures.ran
    (YieldsList-from_map _ (λ (x : Float). x ⊗ x) (YieldsList-from_slice c.args.r.now cc) c.map.ensures.closure (λ x r q k. search (rules, tests)))
    ∙ squares_fold c.args.r.now _

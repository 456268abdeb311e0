-- `seen` meets its contract. Assumes nothing.
use Rattle.orbit.proofs.Hoisted.{sight_kept, sight_own}
use Rattle.approach.proofs.Passes.{dated}
use Rattle.approach.proofs.seen.Goals as goal

pub invariant_of-result : goal.invariant_of-result
invariant_of-result c =
    record { seen = sight_own _ _ c.sight_of.ensures; dated = dated (sight_kept _ _ c.sight_of.ensures) c.requires }

pub returns : goal.returns
returns c = sight_kept _ _ c.sight_of.ensures

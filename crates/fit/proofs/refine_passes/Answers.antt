-- `refine_passes` meets its contract. Assumes nothing.
use native.Mathlib.Omega.{arith}
use Rattle.fit.specs.Work.{observed_in}
use Rattle.fit.proofs.Steps.{moments_length, moments_dated, runs_refined}
use Rattle.fit.proofs.refine_passes.Goals as goal

pub rotations-requires : goal.rotations-requires
rotations-requires g c =
    let same = moments_length _ _ c.counts_at.ensures in
    let s = c.args.x.now.sampled in
    (moments_dated _ _ c.counts_at.ensures s.timed, omega (arith, same, s.sizes.small), omega (arith, same, s.sizes.small))

pub returns : goal.returns
returns g c = runs_refined _ _ _ _ (observed_in c.args.x.now) _ _ _ _ _ _ _ _ c.counts_at.ensures c.starting_set-start.ensures c.refine_trials.ensures

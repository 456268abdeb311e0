-- `observations` meets its contract. Assumes nothing.
use native.Mathlib.Omega.{arith}
use Rattle.probes.proofs.Calls.{dated, counted_length}
use Rattle.probes.proofs.observations.Goals as goal

pub rotations-requires : goal.rotations-requires
rotations-requires c =
    let e = c.counts_at.ensures in
    let o = c.requires.0 in
    let same = counted_length _ _ e in
    (dated _ _ o.timed e, omega (arith, same, o.sizes.small), omega (arith, same, o.sizes.small, o.pairs))

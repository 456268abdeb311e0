-- `search_starts` meets its contract. Assumes nothing.
use native.Mathlib.Omega.{arith}
use Rattle.refusal.proofs.Lists.{accepted}
use Rattle.probes.proofs.Calls.{taken}
use Rattle.probes.proofs.search_starts.Goals as goal

pub fill-requires : goal.fill-requires
fill-requires c =
    let t = taken _ _ _ _ _ _ (accepted _ _ _ c.in_ok-accept.ensures).0 in
    omega (arith, t.sizes.few, t.sizes.small, t.enough)

pub fixed-fixed-requires : goal.fixed-fixed-requires
fixed-fixed-requires c = (taken _ _ _ _ _ _ (accepted _ _ _ c.in_ok-accept.ensures).0).timed

pub invariant_of-set : goal.invariant_of-set
invariant_of-set c =
    let t = taken _ _ _ _ _ _ (accepted _ _ _ c.in_ok-accept.ensures).0 in
    record { sound = record { sizes = t.sizes; timed = t.timed } }

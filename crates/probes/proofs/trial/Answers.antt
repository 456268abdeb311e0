-- `trial` meets its contract. Assumes nothing.
use native.Mathlib.Omega.{arith}
use Rattle.refusal.proofs.Lists.{accepted}
use Rattle.probes.proofs.Calls.{taken, observable}
use Rattle.probes.proofs.trial.Goals as goal

pub turned-after-requires : goal.turned-after-requires
turned-after-requires g c = (taken _ _ _ _ _ _ (accepted _ _ _ c.in_ok-accept.ensures).0).enough

pub station-station-requires : goal.station-station-requires
station-station-requires g c = (taken _ _ _ _ _ _ (accepted _ _ _ c.in_ok-accept.ensures).0).timed

pub observations-obs-requires : goal.observations-obs-requires
observations-obs-requires g c =
    (observable _ _ (omega arith) (omega arith) (taken _ _ _ _ _ _ (accepted _ _ _ c.in_ok-accept.ensures).0), c.station-station.ensures.1)

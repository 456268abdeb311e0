-- `residuals_of` meets its contract. Assumes nothing.
use Prim.Native.Nat.{◌≤◌}
use native.Mathlib.Omega.{arith}
use lib.Seq.{length-take-le}
use Rattle.refusal.proofs.Lists.{accepted}
use Rattle.probes.proofs.Calls.{taken, observable}
use Rattle.probes.proofs.residuals_of.Goals as goal

pub put-requires : goal.put-requires
put-requires g c =
    let t = taken _ _ _ _ _ _ (accepted _ _ _ c.in_ok-accept.ensures).0 in
    let rows : c.rows.result ≤ 4144 = omega (arith, c.rows.ensures.1, c.observations-obs.result.held.small, c.observations-obs.result.held.few) in
    rw (length-take-le c.rows.result c.penalised_sum.new.out (omega (arith, rows, c.penalised_sum.auto.out))) (omega (arith, rows, t.enough))

pub station-station-requires : goal.station-station-requires
station-station-requires g c = (taken _ _ _ _ _ _ (accepted _ _ _ c.in_ok-accept.ensures).0).timed

pub observations-obs-requires : goal.observations-obs-requires
observations-obs-requires g c =
    (observable _ _ (omega arith) (omega arith) (taken _ _ _ _ _ _ (accepted _ _ _ c.in_ok-accept.ensures).0), c.station-station.ensures.1)

use lib.Ieee.{of_bits, round}
use Rattle.float.specs.Ops.{one}
use Rattle.orbit.specs.Doppler.{received_of}
use Rattle.orbit.proofs.doppler.received.Goals as goal

pub returns-then-dist : goal.returns-then-dist
unfolding received_of one of_bits round
returns-then-dist c = simp (← c.dot.ensures, ← c.sqrt-dist.ensures, c.if-dist.true)

pub returns : goal.returns
unfolding received_of one of_bits round
returns c =
    simp (
      ← c.dot.ensures,
      ← c.sqrt-dist.ensures,
      c.if-dist.false,
      ← c.dot-v_sat_sq.ensures,
      ← c.potential-u_sat.ensures,
      ← c.dot-2.ensures,
      ← c.sqrt-gamma_inv.ensures,
    )

use Rattle.float.specs.Ops.{one_bits}
use Rattle.geodetic.specs.Ellipsoid.{semi_major_axis_bits, prime_vertical}
use Rattle.geodetic.proofs.prime_vertical.Goals as goal

pub returns : goal.returns
unfolding prime_vertical
returns c = simp (← semi_major_axis_bits, ← one_bits, c.sqrt.ensures)

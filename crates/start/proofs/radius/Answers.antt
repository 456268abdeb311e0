-- `radius` meets its contract. Assumes nothing.
use Rattle.float.specs.Trig.{pi_bits}
use Rattle.orbit.specs.Orbit.{mu_bits}
use Rattle.solution.specs.Range.{least_radius_bits, most_radius_bits}
use Rattle.start.specs.Start.{radius_of, four_bits}
use Rattle.start.proofs.radius.Goals as goal

pub returns : goal.returns
unfolding radius_of
returns c =
    simp (c.min.ensures, c.max.ensures, c.cbrt-a.ensures, mu_bits, four_bits, pi_bits, least_radius_bits, most_radius_bits)

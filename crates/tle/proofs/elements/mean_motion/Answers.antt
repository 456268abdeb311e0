use Rattle.float.specs.Trig.{full_bits}
use Rattle.orbit.specs.Orbit.{mu_bits}
use Rattle.tle.specs.Elements.{seconds_per_day_bits, mean_motion_of}
use Rattle.tle.proofs.elements.mean_motion.Goals as goal

pub returns : goal.returns
unfolding mean_motion_of
returns c = simp (c.sqrt.ensures, mu_bits, seconds_per_day_bits, full_bits)

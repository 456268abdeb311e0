use Rattle.float.specs.Trig.{pi_bits}
use Rattle.tle.specs.Answer.{inclination_fits}
use Rattle.tle.proofs.elements.accepted_inclination.Goals as goal

pub returns-then-accepted_angle : goal.returns-then-accepted_angle
unfolding inclination_fits
returns-then-accepted_angle c = simp (c.from_to.ensures, pi_bits, ← c.accepted_angle.ensures, c.if-accepted_angle.true)

pub returns-else-accepted_angle : goal.returns-else-accepted_angle
unfolding inclination_fits
returns-else-accepted_angle c = simp (← c.accepted_angle.ensures, c.if-accepted_angle.false)

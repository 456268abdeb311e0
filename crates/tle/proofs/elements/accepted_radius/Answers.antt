use Rattle.solution.specs.Range.{least_radius_bits, most_radius_bits}
use Rattle.tle.specs.Answer.{radius_fits}
use Rattle.tle.proofs.Tests.{finite}
use Rattle.tle.proofs.elements.accepted_radius.Goals as goal

pub returns-then-is_finite : goal.returns-then-is_finite
unfolding radius_fits
returns-then-is_finite c = simp (← finite, ← c.is_finite.ensures.value, c.if-is_finite.true, c.from_to.ensures, least_radius_bits, most_radius_bits)

pub returns-else-is_finite : goal.returns-else-is_finite
unfolding radius_fits
returns-else-is_finite c = simp (← finite, ← c.is_finite.ensures.value, c.if-is_finite.false)

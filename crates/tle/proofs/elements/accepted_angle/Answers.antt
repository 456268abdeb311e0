use Rattle.tle.specs.Answer.{angle_fits}
use Rattle.tle.proofs.Tests.{finite}
use Rattle.tle.proofs.elements.accepted_angle.Goals as goal

pub returns-then-is_finite : goal.returns-then-is_finite
unfolding angle_fits
returns-then-is_finite c = simp (← finite, ← c.is_finite.ensures.value, c.if-is_finite.true, c.is_finite-then-is_finite.ensures.value, c.to_degrees.ensures)

pub returns-else-is_finite : goal.returns-else-is_finite
unfolding angle_fits
returns-else-is_finite c = simp (← finite, ← c.is_finite.ensures.value, c.if-is_finite.false)

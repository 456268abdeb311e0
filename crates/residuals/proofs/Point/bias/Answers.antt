-- `Point::bias` meets its contract. Assumes nothing.
use Rattle.std.proofs.Common.{ne_eqb}
use Rattle.residuals.specs.Residuals.{pass_bias}
use Rattle.residuals.proofs.Point.bias.Goals as goal

pub returns-then-this-ne0 : goal.returns-then-this-ne0
unfolding pass_bias
returns-then-this-ne0 g c = rw (ne_eqb g.row.SECOND 0 c.if-this-ne0.true)

pub returns-else-this-ne0 : goal.returns-else-this-ne0
unfolding pass_bias
returns-else-this-ne0 g c = rw c.if-this-ne0.false

-- `rows_of` meets its contract. Assumes nothing.
use Rattle.std.proofs.Common.{rules, refl, ne_eqb}
use Rattle.residuals.specs.Residuals.{rows_of}
use Rattle.residuals.proofs.rows_of.Goals as goal

pub returns-then-this-ne0 : goal.returns-then-this-ne0
unfolding rows_of
returns-then-this-ne0 g c = rw (ne_eqb g.row.SECOND 0 c.if-this-ne0.true) (refl, search rules)

pub returns-else-this-ne0 : goal.returns-else-this-ne0
unfolding rows_of
returns-else-this-ne0 g c = rw c.if-this-ne0.false (refl, search rules)

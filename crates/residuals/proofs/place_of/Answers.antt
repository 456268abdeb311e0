-- `place_of` meets its contract. Assumes nothing.
use Rattle.std.proofs.Common.{rules, refl, ne_eqb}
use Rattle.residuals.specs.Residuals.{place_of}
use Rattle.residuals.proofs.place_of.Goals as goal

pub returns-then-this-ne0 : goal.returns-then-this-ne0
unfolding place_of
returns-then-this-ne0 g c = rw (ne_eqb g.row.SECOND 0 c.if-this-ne0.true) (refl, search rules, search rules)

pub returns-else-this-ne0 : goal.returns-else-this-ne0
unfolding place_of
returns-else-this-ne0 g c = rw c.if-this-ne0.false (refl, search rules, search rules)

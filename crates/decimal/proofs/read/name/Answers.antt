-- `decimal::read::name` meets its contract: the library's NaN is the definition's. Assumes nothing.
use mathlib.Core.Path.{sym, ◌∙◌}
use lib.Ieee.{of_bits}
use Rattle.decimal.specs.Read as Read
use Rattle.decimal.proofs.read.name.Goals as goal

pub returns-then-spells-3 : goal.returns-then-spells-3
unfolding Read.name of_bits
returns-then-spells-3 c = simp (sym c.spells.ensures ∙ c.if-spells.false, sym c.spells-else-spells.ensures ∙ c.if-spells-2.false, sym c.spells-2.ensures ∙ c.if-spells-3.true)

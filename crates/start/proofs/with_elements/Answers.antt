-- `with_elements` meets its contract. Assumes nothing.
use mathlib.Core.Path.{refl}
use Rattle.start.specs.Start.{with_elements}
use Rattle.start.proofs.with_elements.Goals as goal

pub returns : goal.returns
unfolding with_elements
returns c = refl

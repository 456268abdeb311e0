-- `perturbed` meets its contract. Assumes nothing.
use mathlib.Core.Path.{refl}
use Rattle.refine.specs.Jacobian.{perturbed_of}
use Rattle.refine.proofs.perturbed.Goals as goal

pub returns : goal.returns
unfolding perturbed_of
returns c = refl

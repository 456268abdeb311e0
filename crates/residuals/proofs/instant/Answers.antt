-- `instant` meets its contract. Assumes nothing.
use mathlib.Core.Path.{refl}
use native.Mathlib.Omega.{arith}
use Rattle.residuals.specs.Samples.{instant_of}
use Rattle.residuals.proofs.instant.Goals as goal

pub returns : goal.returns
unfolding instant_of
returns c = (refl, record { low = omega arith; high = omega arith; part = omega arith })

-- `decimal::wide::Wide::of` meets its contract. Assumes nothing.
use native.Mathlib.Omega.{arith}
use Rattle.decimal.specs.Wide.{val}
use Rattle.decimal.proofs.wide.Wide.of.Goals as goal

pub returns : goal.returns
unfolding val
returns c = omega arith

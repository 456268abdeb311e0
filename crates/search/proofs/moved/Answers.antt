-- `moved` meets its contract. Assumes nothing.
use lib.Ieee.{of_bits, round}
use Rattle.float.specs.Ops.{two}
use Rattle.float.specs.Trig.{pi}
use Rattle.search.specs.Step.{moved_angle}
use Rattle.search.proofs.moved.Goals as goal

pub returns : goal.returns
unfolding moved_angle two pi of_bits round
returns c = simp c.rem_euclid.ensures

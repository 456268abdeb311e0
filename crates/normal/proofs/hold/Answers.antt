-- `hold` meets its contract. Assumes nothing.
use Rattle.float.specs.Trig.{pi_bits}
use Rattle.solution.specs.Range.{least_radius_bits, most_radius_bits}
use Rattle.normal.specs.Step.{held}
use Rattle.normal.proofs.hold.Goals as goal

pub returns : goal.returns
unfolding held
returns c = simp (least_radius_bits, most_radius_bits, pi_bits, c.hold_to-i.ensures, c.hold_to-a.ensures)

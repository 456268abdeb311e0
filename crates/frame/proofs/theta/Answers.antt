use lib.Ieee.{of_bits, round}
use Rattle.frame.specs.Rotation.{theta_of}
use Rattle.frame.proofs.theta.Goals as goal

pub returns : goal.returns
unfolding theta_of of_bits round
returns c = simp (c.to_radians.ensures, c.rem_euclid.ensures, c.gmst.ensures)

use lib.Ieee.{of_bits, round}
use Rattle.orbit.specs.Doppler.{potential_of}
use Rattle.orbit.proofs.doppler.potential.Goals as goal

pub returns : goal.returns
unfolding potential_of of_bits round
returns c = simp (c.sqrt.ensures, c.dot.ensures)

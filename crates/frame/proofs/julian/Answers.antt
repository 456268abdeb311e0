use lib.Ieee.{of_bits, round}
use Rattle.frame.specs.Julian.{julian_of}
use Rattle.frame.proofs.julian.Goals as goal

pub returns : goal.returns
unfolding julian_of of_bits round
returns c = simp (c.floor-3.ensures, c.floor-2.ensures, c.floor.ensures, c.floor-a.ensures)

use lib.Ieee.{of_bits, round}
use Rattle.orbit.specs.Orbit.{rates_of}
use Rattle.orbit.proofs.rates_of.Goals as goal

pub returns : goal.returns
unfolding rates_of of_bits round
returns c =
    simp (c.sqrt-n.ensures, c.sqrt-v.ensures, c.sin_cos-s.ensures.0, c.sin_cos-s.ensures.1)

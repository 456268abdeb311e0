use lib.Ieee.{of_bits, round}
use Rattle.orbit.specs.Doppler.{drift_of}
use Rattle.orbit.proofs.doppler.drift.Goals as goal

pub returns : goal.returns
unfolding drift_of of_bits round
returns c = simp c.dot.ensures

use Rattle.moment.specs.Time.{tau_of, units_between, million_bits}
use Rattle.moment.proofs.time.tau.Goals as goal

pub returns : goal.returns
unfolding tau_of units_between
returns c = simp (million_bits, c.between.ensures)

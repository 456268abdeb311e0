use Rattle.moment.specs.Time.{tau_millis_of, units_between, thousand_bits}
use Rattle.moment.proofs.time.tau_millis.Goals as goal

pub returns : goal.returns
unfolding tau_millis_of units_between
returns c = simp (thousand_bits, c.between.ensures)

-- `Point::dt` meets its contract. Assumes nothing.
use Rattle.residuals.specs.Residuals.{dt_of}
use Rattle.residuals.proofs.Point.dt.Goals as goal

pub returns : goal.returns
unfolding dt_of
returns g c = rw c.place_of.ensures.0

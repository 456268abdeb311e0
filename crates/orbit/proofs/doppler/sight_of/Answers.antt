use Rattle.orbit.proofs.Hoisted.{sight_is}
use Rattle.orbit.proofs.doppler.sight_of.Goals as goal

pub returns : goal.returns
returns c = sight_is _ _ _ _ c.rates_of-k.ensures c.potential-u_rec.ensures

use mathlib.Core.Path.{refl}
use lib.Ieee.{of_bits, round}
use Rattle.float.specs.Ops.{one, two}
use Rattle.geodetic.specs.Ellipsoid.{inverse_flattening, eccentricity_squared}
use Rattle.geodetic.proofs.eccentricity_squared.Goals as goal

pub returns : goal.returns
unfolding eccentricity_squared inverse_flattening one two of_bits round
returns c = refl

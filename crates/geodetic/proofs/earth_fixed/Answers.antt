use Rattle.float.specs.Ops.{one_bits}
use Rattle.geodetic.specs.Ellipsoid.{earth_fixed}
use Rattle.geodetic.proofs.earth_fixed.Goals as goal

pub returns : goal.returns
unfolding earth_fixed
returns c =
    simp (← one_bits, c.prime_vertical-n.ensures, c.eccentricity_squared-e2.ensures, c.sin_cos-lon.ensures.0, c.sin_cos-lon.ensures.1, c.to_radians-2.ensures, c.sin_cos-lat.ensures.0, c.sin_cos-lat.ensures.1, c.to_radians.ensures)

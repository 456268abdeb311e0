-- A place on WGS 84's ellipsoid, by latitude and longitude in degrees and height in metres, in Earth-fixed metres; and refusal 13. Axis and flattening
-- are the Rust's, which document 02 [1] makes the definition (NIMA TR 8350.2 has the same), and the formulae stand in the Rust's order.
use Rattle.std.specs.Prelude.{◌≡◌, refl, Bool, ◌||◌, [], ◌∷◌, Float, Result}
use Rattle.std.specs.Float.Ieee.{neg, lt, is_nan, of_bits, round}
use Rattle.roots.specs.Root.{sqrt_of}
use Rattle.float.specs.Constant.{decimal}
use Rattle.float.specs.Ops.{◌⊕◌, ◌⊖◌, ◌⊗◌, ◌⊘◌, bits, one, two, radians_of}
use Rattle.float.specs.Trig.{sin_of, cos_of}
use Rattle.frame.specs.Rotation.{place}
use Rattle.frame.specs.declared.Vec3.{Vec3}
use Rattle.refusal.specs.declared.Refusal.{Refusal}
use Rattle.refusal.specs.declared.Refusal.TheVariants.{PositionRange}
use Rattle.refusal.specs.Refusals.{first_of, ◌when◌, answer}

-- metres
unfoldable pub semi_major_axis : Float
semi_major_axis = decimal 6378137 0

pub semi_major_axis_bits : bits 0x415854a640000000 ≡ semi_major_axis
unfolding semi_major_axis of_bits round
semi_major_axis_bits = refl

unfoldable pub inverse_flattening : Float
inverse_flattening = decimal 298257223563 9

abbrev pub flattening : Float
flattening = one ⊘ inverse_flattening

unfoldable pub eccentricity_squared : Float
eccentricity_squared = two ⊗ flattening ⊖ flattening ⊗ flattening

-- the radius of curvature in the prime vertical, by the square of the eccentricity and the sine of the latitude
unfoldable pub prime_vertical : Float → Float → Float
prime_vertical e2 sin = semi_major_axis ⊘ sqrt_of (one ⊖ e2 ⊗ sin ⊗ sin)

unfoldable pub earth_fixed : Float → Float → Float → Vec3
earth_fixed lat lon alt =
    let phi = radians_of lat in
    let lambda = radians_of lon in
    let n = prime_vertical eccentricity_squared (sin_of phi) in
    place ((n ⊕ alt) ⊗ cos_of phi ⊗ cos_of lambda) ((n ⊕ alt) ⊗ cos_of phi ⊗ sin_of lambda) ((n ⊗ (one ⊖ eccentricity_squared) ⊕ alt) ⊗ sin_of phi)

-- NaN, below lo or above hi
unfoldable pub outside : Float → Float → Float → Bool
outside lo hi v = is_nan v || (lt v lo || lt hi v)

-- latitude beyond ±90, longitude beyond ±360, height outside −500 to 10,000
unfoldable pub off_limits : Float → Float → Float → Bool
off_limits lat lon alt =
    outside (neg (decimal 90 0)) (decimal 90 0) lat
    || (outside (neg (decimal 360 0)) (decimal 360 0) lon || outside (neg (decimal 500 0)) (decimal 10000 0) alt)

unfoldable pub wgs84_to_ecef_of : Float → Float → Float → Result Vec3 Refusal
wgs84_to_ecef_of lat lon alt = answer (first_of ((PositionRange when off_limits lat lon alt) ∷ [])) (earth_fixed lat lon alt)

-- The radii in metres that a fit gives and the lines take: 6500e3 to 20000e3.
use Rattle.std.specs.Prelude.{Float, ◌≡◌, refl}
use Rattle.std.specs.Float.Ieee.{round, of_bits}
use Rattle.float.specs.Constant.{decimal}
use Rattle.float.specs.Ops.{bits}

unfoldable pub least_radius : Float
least_radius = decimal 6500000 0

pub least_radius_bits : bits 0x4158cba800000000 ≡ least_radius
unfolding least_radius of_bits round
least_radius_bits = refl

unfoldable pub most_radius : Float
most_radius = decimal 20000000 0

pub most_radius_bits : bits 0x417312d000000000 ≡ most_radius
unfolding most_radius of_bits round
most_radius_bits = refl

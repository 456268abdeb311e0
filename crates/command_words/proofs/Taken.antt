-- A place that 13 does not refuse is one that the fit takes unchanged: its test for NaN, refusal 6, then turns on the initial a and i alone, and
-- each coordinate is at most 2^24 m in size. Assumes nothing.
use mathlib.Core.Path.{◌≡◌, refl, subst}
use mathlib.Core.Bool.{Bool, true, false, ◌||◌}
use mathlib.Core.List.{List, [], ◌∷◌}
use Prim.Native.Nat.{ℕ}
use native.Mathlib.Omega.{arith}
use lib.Ieee.{Float, is_nan}
use Rattle.std.proofs.Common.{Ok}
use Rattle.refusal.specs.declared.Refusal.TheVariants.{PositionRange}
use Rattle.refusal.specs.Refusals.{first_of, ◌when◌, answer}
use Rattle.frame.specs.declared.Vec3.{Vec3}
use Rattle.arguments.specs.Refusals.{nan_argument}
use Rattle.geodetic.specs.Ellipsoid.{earth_fixed, off_limits, wgs84_to_ecef_of}
use Rattle.geodetic.specs.Line.{read_position_of}
use Rattle.geodetic.proofs.Sized.{Sized, sized, nan_of_others}
use Rattle.geodetic.proofs.Total.{reader_total_only}

pub record Taken (v : Vec3) : Type 0 where
  pub nan : (a i : Float) → nan_argument v a i ≡ (is_nan a || is_nan i)
  pub x : Sized v.x
  pub y : Sized v.y
  pub z : Sized v.z

inside : (lat lon alt : Float) → off_limits lat lon alt ≡ false → Taken (earth_fixed lat lon alt)
unfolding nan_argument
inside lat lon alt h = let s = sized lat lon alt h in record { nan = λ a i. nan_of_others lat lon alt a i h; x = s.0; y = s.1; z = s.2 }

answered : (v w : Vec3) (t : Bool) → (t ≡ false → Taken v) → answer (first_of ((PositionRange when t) ∷ [])) v ≡ Ok w → Taken w
answered v w true h e = let z : ◌≡◌ {A = ℕ} 0 1 = cc in absurd (omega arith)
answered v w false h e = let p : v ≡ w = cc in subst Taken p (h refl)

pub fit_takes_it : (lat lon alt : Float) (v : Vec3) → wgs84_to_ecef_of lat lon alt ≡ Ok v → Taken v
unfolding wgs84_to_ecef_of
fit_takes_it lat lon alt v = answered (earth_fixed lat lon alt) v (off_limits lat lon alt) (inside lat lon alt)

-- so of what the reader takes
pub fit_takes_line : (l : List ℕ) (v : Vec3) → read_position_of l ≡ Ok v → Taken v
fit_takes_line l v e = let s = reader_total_only l v e in fit_takes_it s.lat s.lon s.alt v s.is

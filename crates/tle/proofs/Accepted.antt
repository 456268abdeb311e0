-- What an accepted epoch and an accepted orbit print fits its columns. Assumes nothing.
use mathlib.Core.Bool.{◌&&◌}
use Prim.Native.Nat.{ℕ, ◌-◌, ◌/◌, ◌%◌}
use native.Mathlib.Nat.{mod-lt}
use native.Mathlib.Omega.{arith}
use lib.Dec.{T, lit<}
use lib.Ieee.{Float}
use lib.Ieee.Fits.{and_l, and_r}
use Rattle.float.specs.Ops.{bits, degrees_of}
use Rattle.float.specs.Trig.{is_finite}
use Rattle.moment.specs.Origin.{march1956}
use Rattle.moment.specs.Calendar.{date_of, ordinal_of}
use Rattle.moment.specs.Range.{Within}
use Rattle.moment.proofs.Numbers.{day}
use Rattle.tle.specs.Elements.{printed_degrees, mean_motion_of, epoch_at}
use Rattle.float.specs.Trig.{pi}
use Rattle.solution.specs.Range.{least_radius, most_radius}
use Rattle.tle.specs.Answer.{from_to, angle_fits, radius_fits, inclination_fits, orbit_fits}
use Rattle.solution.specs.declared.SolvedOrbit.{SolvedOrbit}
use Rattle.tle.proofs.Dates.{ordinal_le}
use Rattle.tle.proofs.Ranges.{UpTo, degrees_up, mean_motion_up, day_up}

pub epoch_up : (secs nanos : ℕ) → Within 0 secs nanos → UpTo 367 (epoch_at secs nanos).day
unfolding epoch_at
epoch_up secs nanos h =
    let s = secs - march1956 in
    let n = h.part in
    day_up (ordinal_of (date_of (s / 86400))) (s % 86400) nanos (ordinal_le _ (day (s / 86400)).dated) (mod-lt s (lit< tt)) (omega arith)

-- an accepted orbit, test by test
pub record Sound (o : SolvedOrbit) : Type 0 where
  pub radius : T (radius_fits o.a)
  pub i_inside : T (inclination_fits o.i)
  pub i_fits : T (angle_fits o.i)
  pub raan0_fits : T (angle_fits o.raan0)
  pub u0_fits : T (angle_fits o.u0)

inclination_angle : (i : Float) → T (inclination_fits i) → T (angle_fits i)
unfolding inclination_fits
inclination_angle i t = and_l (angle_fits i) (from_to (bits 0) pi i) t

pub sound : (o : SolvedOrbit) → T (orbit_fits o) → Sound o
unfolding orbit_fits
sound o t =
    let a = radius_fits o.a in
    let i = inclination_fits o.i in
    let n = angle_fits o.raan0 in
    let u = angle_fits o.u0 in
    let p = and_r a (i && (n && u)) t in
    let q = and_r i (n && u) p in
    let r = and_l i (n && u) p in
    record { radius = and_l a (i && (n && u)) t; i_inside = r; i_fits = inclination_angle o.i r; raan0_fits = and_l n u q; u0_fits = and_r n u q }

pub angle_up : (x : Float) → T (angle_fits x) → UpTo 360 (printed_degrees x)
unfolding angle_fits
angle_up x t = degrees_up x (and_r (is_finite x) (is_finite (degrees_of x)) t)

pub motion_up : (a : Float) → T (radius_fits a) → UpTo 54 (mean_motion_of a)
unfolding radius_fits
motion_up a t = mean_motion_up a (and_l (is_finite a) (from_to least_radius most_radius a) t) (and_r (is_finite a) (from_to least_radius most_radius a) t)

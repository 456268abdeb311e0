-- The sidereal angle, and the turn about the Earth's axis.
use Rattle.std.specs.Prelude.{Float, ℕ}
use Rattle.std.specs.Float.Ieee.{neg}
use Rattle.float.specs.Constant.{decimal}
use Rattle.float.specs.Ops.{◌⊕◌, ◌⊖◌, ◌⊗◌, ◌⊘◌, rem_euclid_of, radians_of}
use Rattle.float.specs.Trig.{sin_of, cos_of}
use Rattle.float.specs.declared.trig.SinCos.{SinCos}
use Rattle.frame.specs.Julian.{jd_at}
use Rattle.frame.specs.declared.State.{State}
use Rattle.frame.specs.declared.Vec3.{Vec3}

-- Greenwich mean sidereal angle in degrees (Meeus, Astronomical Algorithms, chapter 12), in the Rust's order
unfoldable pub gmst_of : Float → Float
gmst_of jd =
    let d = jd ⊖ decimal 2451545 0 in
    let t = d ⊘ decimal 36525 0 in
    decimal 28046061837 8 ⊕ decimal 36098564736629 11 ⊗ d ⊕ decimal 387933 9 ⊗ t ⊗ t ⊖ t ⊗ t ⊗ t ⊘ decimal 38710000 0

-- in radians, from 0 on
unfoldable pub theta_of : Float → Float
theta_of jd = radians_of (rem_euclid_of (gmst_of jd) (decimal 360 0))

-- the Earth's rotation, rad/s
abbrev omega : Float
omega = decimal 72921151467 15

-- a state in the frame turned by the angle of this sine and cosine, with the velocity of the turning frame taken off
unfoldable pub rotated_of : Float → Float → State → State
rotated_of sin cos s =
    let x = s.x ⊗ cos ⊕ s.y ⊗ sin in
    let y = neg s.x ⊗ sin ⊕ s.y ⊗ cos in
    record {
      x = x;
      y = y;
      z = s.z;
      vx = (s.vx ⊗ cos ⊕ s.vy ⊗ sin) ⊕ omega ⊗ y;
      vy = (neg s.vx ⊗ sin ⊕ s.vy ⊗ cos) ⊖ omega ⊗ x;
      vz = s.vz;
    }

abbrev pub state_of : Vec3 → Vec3 → State
state_of p v = record { x = p.x; y = p.y; z = p.z; vx = v.x; vy = v.y; vz = v.z }

-- at a Julian date, from the inertial frame's position and velocity
unfoldable pub ecef_of : Float → Vec3 → Vec3 → State
ecef_of jd p v = rotated_of (sin_of (theta_of jd)) (cos_of (theta_of jd)) (state_of p v)

-- sine and cosine of the sidereal angle at the moment secs − 2^44 seconds after 1970 and so many nanoseconds
abbrev pub turn_at : ℕ → ℕ → SinCos
turn_at secs nanos = let theta = theta_of (jd_at secs nanos) in record { sin = sin_of theta; cos = cos_of theta }

-- a place by its three numbers
abbrev pub place : Float → Float → Float → Vec3
place x y z = record { x = x; y = y; z = z }

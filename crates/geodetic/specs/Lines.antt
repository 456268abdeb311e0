-- What a position line is, by the grammar of its numbers and without the reader. proofs/Total.antt shows that the reader takes these lines and no
-- others.
use Rattle.std.specs.Prelude.{◌≡◌, true, false, List, [], ◌∷◌, ◌++◌, ℕ, ◌≤◌, Float, Ok}
use Rattle.text.specs.Text.{bytes}
use Rattle.decimal.specs.Grammar.{Written}
use Rattle.passes.specs.Text.{blank}
use Rattle.geodetic.specs.Ellipsoid.{off_limits, earth_fixed, wgs84_to_ecef_of}
use Rattle.geodetic.specs.Line.{line_size, read_position_of}
use Rattle.frame.specs.declared.Vec3.{Vec3}

-- nothing but the blanks of the pass file
pub data AllBlank : List ℕ → Type 0 where
  no_blank : AllBlank []
  blank_first : {c : ℕ} {l : List ℕ} → blank c ≡ true → AllBlank l → AllBlank (c ∷ l)

-- Three numbers of the grammar joined by two commas, and blanks at the ends alone. That each comes to a value says that none is beyond 3's limits
-- of digits and exponent.
pub record PositionLine (l : List ℕ) (lat lon alt : Float) : Type 0 where
  pub before : List ℕ
  pub latitude : List ℕ
  pub longitude : List ℕ
  pub height : List ℕ
  pub after : List ℕ
  pub is : l ≡ before ++ latitude ++ bytes "," ++ longitude ++ bytes "," ++ height ++ after
  pub blank_before : AllBlank before
  pub latitude_is : Written latitude (Ok lat)
  pub longitude_is : Written longitude (Ok lon)
  pub height_is : Written height (Ok alt)
  pub blank_after : AllBlank after
  pub size : line_size l ≤ 256
  pub inside : off_limits lat lon alt ≡ false

-- l is a position line, and p the place of its three numbers
pub record Says (l : List ℕ) (p : Vec3) : Type 0 where
  pub lat : Float
  pub lon : Float
  pub alt : Float
  pub line : PositionLine l lat lon alt
  pub is : wgs84_to_ecef_of lat lon alt ≡ Ok p

-- The reader takes every position line, with the place of its three numbers, as `wgs84_to_ecef` answers them; and what it takes is a
-- position line.
pub record ReaderTotal (l : List ℕ) : Type 0 where
  pub accepts : (lat lon alt : Float) → PositionLine l lat lon alt → read_position_of l ≡ Ok (earth_fixed lat lon alt)
  pub as_called : (lat lon alt : Float) → PositionLine l lat lon alt → read_position_of l ≡ wgs84_to_ecef_of lat lon alt
  pub only : (p : Vec3) → read_position_of l ≡ Ok p → Says l p

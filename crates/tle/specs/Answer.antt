-- What `format_tle_catalog` answers and writes, for every input.
use Rattle.std.specs.Prelude.{◌≡◌, Bool, true, not, ◌&&◌, ◌||◌, List, [], ◌∷◌, ◌++◌, ℕ, ◌+◌, leb, ltb, length, drop, Float, Option, Result}
use Rattle.std.specs.Float.Ieee.{lt}
use Rattle.refusal.specs.Refusals.{◌when◌, first_of, answer, written}
use Rattle.refusal.specs.declared.Refusal.{Refusal}
use Rattle.refusal.specs.declared.Refusal.TheVariants.{MomentRange, Unprintable, ShortMemory}
use Rattle.float.specs.Ops.{bits, degrees_of}
use Rattle.float.specs.Trig.{pi, is_finite}
use Rattle.moment.specs.Range.{taken}
use Rattle.tle.specs.Lines.{catalog_of}
use Rattle.solution.specs.Range.{least_radius, most_radius}
use Rattle.solution.specs.declared.SolvedOrbit.{SolvedOrbit}

-- ---- orbit and name: refusal 11

-- v is from lo to hi, the ends included
abbrev pub from_to : Float → Float → Float → Bool
from_to lo hi v = not (lt v lo || lt hi v)

-- an angle and its degrees are finite
unfoldable pub angle_fits : Float → Bool
angle_fits x = is_finite x && is_finite (degrees_of x)

unfoldable pub radius_fits : Float → Bool
radius_fits a = is_finite a && from_to least_radius most_radius a

unfoldable pub inclination_fits : Float → Bool
inclination_fits i = angle_fits i && from_to (bits 0) pi i

unfoldable pub orbit_fits : SolvedOrbit → Bool
orbit_fits o = radius_fits o.a && (inclination_fits o.i && (angle_fits o.raan0 && angle_fits o.u0))

-- bytes from 32 to 126
abbrev pub visible_byte : ℕ → Bool
visible_byte c = leb 32 c && leb c 126

unfoldable pub visible : List ℕ → Bool
visible [] = true
visible (c ∷ l) = visible_byte c && visible l

unfoldable pub name_fits : List ℕ → Bool
name_fits l = leb (length l) 24 && visible l

-- ---- the call

-- with so many bytes lent for the text
unfoldable pub lines_refusal : List ℕ → SolvedOrbit → ℕ → Option Refusal
lines_refusal name o room =
    first_of (
    (MomentRange when not (taken o.epoch))
    ∷ (Unprintable when not (orbit_fits o && name_fits name))
    ∷ (ShortMemory when ltb room (length name + 141))
    ∷ [])

-- the answer is the number of the text's bytes, which come first, and the places past them stay; a refusal writes nothing
pub record Formats (name : List ℕ) (o : SolvedOrbit) (out out' : List ℕ) (r : Result ℕ Refusal) : Type 0 where
  pub answer : r ≡ answer (lines_refusal name o (length out)) (length name + 141)
  pub text : out' ≡ written (lines_refusal name o (length out)) (catalog_of name o ++ drop (length name + 141) out) out

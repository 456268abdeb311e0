-- What the command's words say.
use Rattle.std.specs.Prelude.{ℕ, ◌+◌, ◌-◌, ◌≤◌, Bool, true, false, cond, ◌||◌, List, ltb, length, ◌≡◌, refl, Float, Result, Ok, Err}
use Rattle.std.specs.Float.Ieee.{lt, of_bits, round}
use Rattle.text.specs.Text.{bytes, code}
use Rattle.roots.specs.Root.{sqrt_of}
use Rattle.float.specs.Constant.{decimal}
use Rattle.float.specs.Ops.{◌⊕◌, ◌⊗◌, bits, radians_of}
use Rattle.frame.specs.Rotation.{place}
use Rattle.frame.specs.declared.Vec3.{Vec3}
use Rattle.passes.specs.Text.{until}
use Rattle.geodetic.specs.Line.{read_position_of}
use Rattle.refusal.specs.declared.Refusal.{Refusal}
use Rattle.decimal.specs.Read.{Number, number}
use Rattle.decimal.specs.declared.read.NumberError.TheVariants.{NotANumber, TooLong}
use Rattle.command_words.specs.declared.Layout.{Layout}
use Rattle.command_words.specs.declared.Mast.{Mast}
use Rattle.command_words.specs.declared.MastError.{MastError}
use Rattle.command_words.specs.declared.MastError.TheVariants.{NoNumber, LongNumber, NoPlace}
use Rattle.command_words.specs.declared.Request.{Request}
use Rattle.command_words.specs.declared.WordsError.{WordsError}
use Rattle.command_words.specs.declared.WordsError.TheVariants.{TooFew, TooMany}

abbrev pub as_received : List ℕ
as_received = bytes "--as-received"

-- 6,300 km and 6,500 km
unfoldable pub nearest : Float
nearest = decimal 6300000 0

pub nearest_bits : bits 0x4158085800000000 ≡ nearest
unfolding nearest of_bits round
nearest_bits = refl

unfoldable pub farthest : Float
farthest = decimal 6500000 0

pub farthest_bits : bits 0x4158cba800000000 ≡ farthest
unfolding farthest of_bits round
farthest_bits = refl

-- how far from the Earth's centre a mast is not on the ground, by its Earth-fixed metres
abbrev pub centre_distance : Vec3 → Float
centre_distance v = sqrt_of ((v.x ⊗ v.x ⊕ v.y ⊗ v.y) ⊕ v.z ⊗ v.z)

unfoldable pub off_ground : Vec3 → Bool
off_ground v = lt (centre_distance v) nearest || lt farthest (centre_distance v)

-- a first word with a comma is a position line
unfoldable pub is_line : List ℕ → Bool
is_line w = ltb (until (code ",") w) (length w)

-- how many words say mast and inclination: a position line stands for X Y Z
abbrev pub mast_words : Bool → ℕ
mast_words true = 2
mast_words false = 4

-- what word k says, if it is a number
unfoldable pub numbered : ℕ → Number → Result Float MastError
numbered k (Err NotANumber) = Err (NoNumber k)
numbered k (Ok v) = Ok v
numbered k (Err TooLong) = Err (LongNumber k)

-- what follows from a value, if there is one
unfoldable pub and_then : {A B : Type 0} → Result A MastError → (A → Result B MastError) → Result B MastError
and_then (Ok v) next = next v
and_then (Err e) next = Err e

-- the inclination is in degrees
abbrev pub inclination_of : Vec3 → Number → Result Mast MastError
inclination_of v i = and_then (numbered 4 i) (λ d. Ok (record { rec_ecef = v; initial_i = radians_of d }))

abbrev pub xyz_mast : Number → Number → Number → Number → Result Mast MastError
xyz_mast x y z i = and_then (numbered 1 x) (λ a. and_then (numbered 2 y) (λ b. and_then (numbered 3 z) (λ c. inclination_of (place a b c) i)))

-- what a position line and the word behind it say
abbrev pub line_mast : Result Vec3 Refusal → Number → Result Mast MastError
line_mast (Ok v) i = inclination_of v i
line_mast (Err r) i = Err (NoPlace r)

-- of four words, or of two where the first is a position line; the first that is wrong answers
unfoldable pub mast_of : List ℕ → List ℕ → List ℕ → List ℕ → Result Mast MastError
mast_of x y z i = cond (is_line x) (line_mast (read_position_of x) (number y)) (xyz_mast (number x) (number y) (number z) (number i))

-- the files stand behind the program's name, maybe --as-received, and k words of mast and inclination
abbrev pub layout_of : Bool → ℕ → ℕ → Layout
layout_of received k files = record { received = received; first = cond received 2 1 + k; files = files }

-- Of n words, the program's name among them and --as-received not: the name, those of mast and inclination, x y z i or the first two of them, then 1
-- to 16 files.
unfoldable pub request_of : Bool → ℕ → List ℕ → List ℕ → List ℕ → List ℕ → Result Request WordsError
request_of received n x y z i =
    let k = mast_words (is_line x) in
    cond (ltb n (k + 2)) (Err TooFew) (cond (ltb (k + 17) n) (Err TooMany)
    (Ok (record { mast = mast_of x y z i; layout = layout_of received k (n - (k + 1)) })))

-- what is true of every request's files (proofs/Counted.antt)
pub record Few (l : Layout) : Type 0 where
  pub files : l.files ≤ 16
  pub first : l.first ≤ 6

-- The fit's refusals before it works, in document 01's order.
use Rattle.std.specs.Prelude.{◌≡◌, refl, Bool, false, not, ◌&&◌, ◌||◌, List, [], ◌∷◌, ℕ, ◌+◌, ◌*◌, ◌≤◌, ◌<◌, leb, ltb, ℤ, length, get_or, Float, Option}
use Rattle.std.specs.Float.{nan}
use Rattle.std.specs.Float.Ieee.{lt, is_nan, of_bits, round}
use Rattle.refusal.specs.Refusals.{Check, ◌when◌, first_of}
use Rattle.refusal.specs.declared.Refusal.{Refusal}
use Rattle.refusal.specs.declared.Refusal.TheVariants.{MomentRange, NanArgument, InitialRange, NanFrequency, FewPasses, FewSamples, ShortMemory}
use Rattle.refusal.specs.declared.Refusal.TheVariants as refusal
use Rattle.float.specs.Constant.{decimal}
use Rattle.float.specs.Ops.{bits}
use Rattle.float.specs.Trig.{pi}
use Rattle.moment.specs.Sample.{times_in_range, Timed}
use Rattle.frame.specs.declared.Vec3.{Vec3}
use Rattle.pass_set.specs.PassSet.{sizes_agree, Sizes}
use Rattle.arguments.specs.Passes.{non_empty}
use Rattle.arguments.specs.declared.Room.{Room}

-- 6000 km and 50000 km
unfoldable pub least_a : Float
least_a = decimal 6000000 0

pub least_a_bits : bits 0x4156e36000000000 ≡ least_a
unfolding least_a of_bits round
least_a_bits = refl

unfoldable pub most_a : Float
most_a = decimal 50000000 0

pub most_a_bits : bits 0x4187d78400000000 ≡ most_a
unfolding most_a of_bits round
most_a_bits = refl

unfoldable pub nan_argument : Vec3 → Float → Float → Bool
nan_argument rec a i = is_nan rec.x || (is_nan rec.y || (is_nan rec.z || (is_nan a || is_nan i)))

unfoldable pub out_of_range : Float → Float → Bool
out_of_range a i = lt a least_a || (lt most_a a || (lt i (bits 0) || lt pi i))

unfoldable pub any_nan : List Float → Bool
any_nan [] = false
any_nan (f ∷ fs) = is_nan f || any_nan fs

-- the scratch that S samples in P non-empty passes need
unfoldable pub scratch_size : ℕ → ℕ → ℕ
scratch_size s p = (s + 3 * p) * (5 + 4 * p) + 20000

abbrev pub room_of : (dts dfs df1s df2s log scratch : ℕ) → Room
room_of dts dfs df1s df2s log scratch = record { dts = dts; dfs = dfs; df1s = df1s; df2s = df2s; log = log; scratch = scratch }

-- a number for each pass in each of the four bias slices, 150 sums, and the scratch
unfoldable pub enough : ℕ → ℕ → Room → Bool
enough s p r =
    leb p r.dts && (leb p r.dfs && (leb p r.df1s && (leb p r.df2s && (leb 150 r.log && leb (scratch_size s p) r.scratch))))

-- 21: the lent memory is too short
abbrev pub room_refusals : ℕ → ℕ → Room → List Check
room_refusals s p room = (ShortMemory when not (enough s p room)) ∷ []

abbrev pub room_refusal_of : ℕ → ℕ → Room → Option Refusal
room_refusal_of s p room = first_of (room_refusals s p room)

module _ (counts : List ℕ) (times : List ℤ) (freqs centers : List Float) (rec : Vec3) (a i : Float) where
  abbrev pub input_refusals : List Check → List Check
  input_refusals rest =
      (refusal.Sizes when not (sizes_agree counts (length times) (length freqs) (length centers)))
      ∷ (MomentRange when not (times_in_range times))
      ∷ (NanArgument when nan_argument rec a i)
      ∷ (InitialRange when out_of_range a i)
      ∷ (NanFrequency when any_nan freqs)
      ∷ (FewPasses when ltb (length (non_empty counts)) 2)
      ∷ (FewSamples when ltb (length times) (4 + length (non_empty counts)))
      ∷ rest

  unfoldable pub input_refusal_of : Option Refusal
  input_refusal_of = first_of (input_refusals [])

  unfoldable pub refusal_of : Room → Option Refusal
  refusal_of room = first_of (input_refusals (room_refusals (length times) (length (non_empty counts)) room))

-- ---- what no refusal says, as facts

-- a first guess of a and i that passed refusals 6 and 7, and a receiver
pub record Guess (rec : Vec3) (a i : Float) : Type 0 where
  pub x_number : is_nan rec.x ≡ false
  pub y_number : is_nan rec.y ≡ false
  pub z_number : is_nan rec.z ≡ false
  pub a_number : is_nan a ≡ false
  pub i_number : is_nan i ≡ false
  pub a_low : lt a least_a ≡ false
  pub a_high : lt most_a a ≡ false
  pub i_low : lt i (bits 0) ≡ false
  pub i_high : lt pi i ≡ false

pub record InputAccepted (counts : List ℕ) (times : List ℤ) (freqs centers : List Float) (rec : Vec3) (a i : Float) : Type 0 where
  pub sizes : Sizes counts (length times) (length freqs) (length centers)
  pub timed : Timed times
  pub guess : Guess rec a i
  pub numbers : (k : ℕ) → k < length freqs → is_nan (get_or freqs k nan) ≡ false
  pub passes : 2 ≤ length (non_empty counts)
  pub samples : 4 + length (non_empty counts) ≤ length times

pub record Roomy (s p : ℕ) (r : Room) : Type 0 where
  pub dts_room : p ≤ r.dts
  pub dfs_room : p ≤ r.dfs
  pub df1s_room : p ≤ r.df1s
  pub df2s_room : p ≤ r.df2s
  pub log_room : 150 ≤ r.log
  pub scratch_room : scratch_size s p ≤ r.scratch

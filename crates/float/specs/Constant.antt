-- Constants as the paper prints them. A literal of the code stands in a contract by its bits: each constant has a law
-- `NAME-bits` that equates the two, and proofs rewrite by it.
use Rattle.std.specs.Float.Ieee as Ieee
use Rattle.std.specs.Float.{binary64}
use Rattle.std.specs.Prelude.{ℕ, ◌^◌, Bool, false, Float}

-- the f64 nearest n/d, negative where s is true (IEEE 754, ties to even)
abbrev pub fraction : Bool → ℕ → ℕ → Float
fraction s n d = Ieee.round binary64 s n d

-- the f64 nearest n/10^k: `decimal 15 1` is 1.5
abbrev pub decimal : ℕ → ℕ → Float
decimal n k = fraction false n (10 ^ k)

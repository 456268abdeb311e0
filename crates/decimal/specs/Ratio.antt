-- r is the bit pattern, without the sign, of the float nearest to d * 10 ^ up / 10 ^ down.
use Rattle.std.specs.Prelude.{ℕ, ◌+◌, ◌*◌, ◌^◌, ◌≤◌, ◌≡◌, Bool, cond}
use Rattle.std.specs.Float.{binary64}
use Rattle.std.specs.Float.Ieee.{round, of_bits}

pub record Pattern (d up down r : ℕ) : Type 0 where
  pub small : r ≤ 1500 * 2 ^ 52
  pub is : (s : Bool) → round binary64 s (d * 10 ^ up) (10 ^ down) ≡ of_bits binary64 (cond s (2 ^ 63) 0 + r)

-- What it means to be nearest to a root. There are no real numbers here, so it is said of powers. Definitions only.
use Rattle.std.specs.Prelude.{ℕ, ◌+◌, ◌-◌, ◌*◌, ◌≤◌, ◌<◌}

-- q is the whole number nearest to the root of n: the powers of q - 1/2 and q + 1/2 lie on either side of n. There are no ties: no odd number's power is a multiple of 2's.
pub record Nearest (power : ℕ → ℕ) (n q : ℕ) : Type 0 where
  pub some : 0 < q
  pub below : power (2 * q - 1) < power 2 * n
  pub above : power 2 * n < power (2 * q + 1)

-- b is at least as near to r as c is, where the power of 2 * r is n: r is not beyond the mean of b and c, on the side of c. `proofs/Meaning.antt` proves it of `sqrt_of` and `cbrt_of`.
pub record AtLeastAsNear (power : ℕ → ℕ) (n b c : ℕ) : Type 0 where
  pub to_larger : b < c → n ≤ power (b + c)
  pub to_smaller : c < b → power (b + c) ≤ n

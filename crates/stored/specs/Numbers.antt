-- Numbers as little-endian bytes: the lowest byte first.
use Rattle.std.specs.Prelude.{ℕ, zero, suc, ◌+◌, ◌-◌, ◌*◌, ◌/◌, ◌%◌, ◌^◌, ◌<◌, ◌≡◌, cond, List, [], ◌∷◌, ◌++◌, ltb, ℤ, pos, negsuc, drop}

-- the number that the first n bytes write
unfoldable pub little_endian : ℕ → List ℕ → ℕ
little_endian zero l = 0
little_endian (suc n) [] = 0
little_endian (suc n) (b ∷ l) = b + 256 * little_endian n l

-- v's n lowest bytes
unfoldable pub low_bytes : ℕ → ℕ → List ℕ
low_bytes zero v = []
low_bytes (suc n) v = v % 256 ∷ low_bytes n (v / 256)

-- an i64's bits as an unsigned number, by two's complement, and back
unfoldable pub time_bits : ℤ → ℕ
time_bits (pos n) = n
time_bits (negsuc n) = 18446744073709551615 - n

unfoldable pub time_of : ℕ → ℤ
time_of u = cond (ltb u 9223372036854775808) (pos u) (negsuc (18446744073709551615 - u))

-- k numbers of w bytes each, taken as f says
unfoldable pub numbers_in : {A : Type 0} → ℕ → (ℕ → A) → ℕ → List ℕ → List A
numbers_in w f zero l = []
numbers_in w f (suc k) l = f (little_endian w l) ∷ numbers_in w f k (drop w l)

-- the numbers of xs, by g, as w bytes each
unfoldable pub written : {A : Type 0} → ℕ → (A → ℕ) → List A → List ℕ
written w g [] = []
written w g (x ∷ xs) = low_bytes w (g x) ++ written w g xs

-- r is the number of the n bytes at a place
pub record Read (n : ℕ) (l : List ℕ) (at r : ℕ) : Type 0 where
  pub is : r ≡ little_endian n (drop at l)
  pub most : r < 256 ^ n

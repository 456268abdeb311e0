-- Worked examples, by computation. Assumes nothing.
use Rattle.std.proofs.Common.{◌≡◌, [], ◌∷◌, refl}
use lib.Ieee.{lt, of_bits}
use Rattle.float.specs.Ops.{bits}
use Rattle.monna.specs.Rng.{drawn}
use Rattle.search.specs.Step.{prime_of}
use Rattle.search.specs.Search.{better_of}

-- the bases of steps 0 to 4, and of the last
bases : (prime_of 0 ∷ prime_of 1 ∷ prime_of 2 ∷ prime_of 3 ∷ prime_of 4 ∷ prime_of 14 ∷ []) ≡ (2 ∷ 3 ∷ 5 ∷ 7 ∷ 2 ∷ 5 ∷ [])
unfolding prime_of
bases = refl

-- where start 1's generator begins
second_start : drawn 75 1337 ≡ 2126121573835977038
unfolding drawn
second_start = refl

-- 1.0 twice: the earlier start stays
tie : (better_of (record { start = 3; raan0 = bits 0; u0 = bits 0; rss = bits 0x3ff0000000000000 })
    (record { start = 4; raan0 = bits 0; u0 = bits 0; rss = bits 0x3ff0000000000000 })).start ≡ 3
unfolding better_of lt of_bits
tie = refl

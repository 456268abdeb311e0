-- Worked examples of both roots, by computation.
use Rattle.std.specs.Prelude.{◌≡◌, refl, pos, false}
use Rattle.std.specs.Float.{nan, fin, binary64}
use Rattle.std.specs.Float.Ieee.{of_bits}
use Rattle.roots.specs.Root.{isqrt, sqrt_of}
use Rattle.roots.specs.Cube.{cbrt_of}

isqrt_99 : isqrt 99 ≡ 9
unfolding isqrt
isqrt_99 = refl

isqrt_100 : isqrt 100 ≡ 10
unfolding isqrt
isqrt_100 = refl

sqrt_4 : sqrt_of (fin false 1 (pos 2)) ≡ fin false 1 (pos 1)
unfolding sqrt_of
sqrt_4 = refl

sqrt_2 : sqrt_of (of_bits binary64 0x4000000000000000) ≡ of_bits binary64 0x3ff6a09e667f3bcd
unfolding sqrt_of of_bits
sqrt_2 = refl

-- the smallest value 2 ^ -1074, and the largest
sqrt_low : sqrt_of (of_bits binary64 1) ≡ of_bits binary64 0x1e60000000000000
unfolding sqrt_of of_bits
sqrt_low = refl

sqrt_top : sqrt_of (of_bits binary64 0x7fefffffffffffff) ≡ of_bits binary64 0x5fefffffffffffff
unfolding sqrt_of of_bits
sqrt_top = refl

-- minus zero and minus infinity
sqrt_minus_zero : sqrt_of (of_bits binary64 0x8000000000000000) ≡ of_bits binary64 0x8000000000000000
unfolding sqrt_of of_bits
sqrt_minus_zero = refl

sqrt_bottom : sqrt_of (of_bits binary64 0xfff0000000000000) ≡ nan
unfolding sqrt_of of_bits
sqrt_bottom = refl

-- ---- cube roots
cbrt_27 : cbrt_of (fin false 27 (pos 0)) ≡ fin false 3 (pos 0)
unfolding cbrt_of
cbrt_27 = refl

cbrt_2 : cbrt_of (of_bits binary64 0x4000000000000000) ≡ of_bits binary64 0x3ff428a2f98d728b
unfolding cbrt_of of_bits
cbrt_2 = refl

-- the number below 8 rounds up to 2
cbrt_8 : cbrt_of (of_bits binary64 0x401fffffffffffff) ≡ of_bits binary64 0x4000000000000000
unfolding cbrt_of of_bits
cbrt_8 = refl

cbrt_low : cbrt_of (of_bits binary64 1) ≡ of_bits binary64 0x2990000000000000
unfolding cbrt_of of_bits
cbrt_low = refl

cbrt_top : cbrt_of (of_bits binary64 0x7fefffffffffffff) ≡ of_bits binary64 0x554428a2f98d728b
unfolding cbrt_of of_bits
cbrt_top = refl

cbrt_minus_zero : cbrt_of (of_bits binary64 0x8000000000000000) ≡ of_bits binary64 0
unfolding cbrt_of of_bits
cbrt_minus_zero = refl

cbrt_bottom : cbrt_of (of_bits binary64 0xfff0000000000000) ≡ of_bits binary64 0x7ff0000000000000
unfolding cbrt_of of_bits
cbrt_bottom = refl

cbrt_minus_one : cbrt_of (of_bits binary64 0xbff0000000000000) ≡ nan
unfolding cbrt_of of_bits
cbrt_minus_one = refl

-- A prediction's own shift of its moment, where it is a difference of two moments: its microseconds, cut toward zero, are at
-- most 4·10^15 in size, so that the moved moment is under 8·10^12 s from 1970 and no refusal 23 arises.
use Rattle.std.proofs.Common.{◌≡◌, ℕ, zero, suc, ◌+◌, ◌*◌, ◌/◌, ◌^◌, ◌<◌, ◌≤◌, Bool, true, false, leb, ℤ, pos, negsuc, neg_ℤ, nat_abs, refl, div-lt_iff_lt-mul, arith, lit<, leb-false, leb-true}
use lib.Ieee.{Float, nan, inf, fin, binary64, up, down, unlike, of_int, round, mul, div, to_signed}
use lib.Ieee.Fits.{down_pos}
use Rattle.float.specs.Ops.{◌⊗◌, ◌⊘◌}
use Rattle.float.proofs.Rounding as rounded
use Rattle.moment.specs.Time.{units_between, tau_millis_of, million, thousand}

-- finite, and at most b in size
abbrev AtMost : ℕ → Float → Type 0
AtMost b nan = ⊥
AtMost b (inf s) = ⊥
AtMost b (fin s m e) = m * up e ≤ b * down e

from_within : (s : Bool) (b : ℕ) (x : Float) → rounded.Within s b 1 x → AtMost b x
from_within s b nan h = h
from_within s b (inf t) h = h
from_within s b (fin t m e) h = omega (arith, h.1)

round_at_most : (s : Bool) (a c b d n j : ℕ) → 0 < c → 0 < d → a * d ≤ b * c → round binary64 false b d ≡ fin false n (pos j) → AtMost (n * 2 ^ j) (round binary64 s a c)
round_at_most s a c b d n j C D h e = from_within s (n * 2 ^ j) (round binary64 s a c) (rounded.round_within binary64 s a c b d n (pos j) C D h e)

-- 4·10^12 ms, 4·10^9 s, 4·10^15 µs
whole_ms : round binary64 false 4000000000000 1 ≡ fin false 244140625 (pos 14)
unfolding round
whole_ms = refl

whole_s : round binary64 false 4000000000000 1000 ≡ fin false 1953125 (pos 11)
unfolding round
whole_s = refl

whole_us : round binary64 false 4000000000000000 1 ≡ fin false 30517578125 (pos 17)
unfolding round
whole_us = refl

of_int_lem : (z : ℤ) → nat_abs z < 4000000000000 → AtMost 4000000000000 (of_int binary64 z)
unfolding of_int
of_int_lem (pos n) h = round_at_most false n 1 4000000000000 1 244140625 14 (lit< tt) (lit< tt) (omega arith) whole_ms
of_int_lem (negsuc n) h = round_at_most true (suc n) 1 4000000000000 1 244140625 14 (lit< tt) (lit< tt) (omega arith) whole_ms

over_thousand : (x : Float) → AtMost 4000000000000 x → AtMost 4000000000 (x ⊘ thousand)
unfolding div round thousand
over_thousand nan h = h
over_thousand (inf s) h = absurd h
over_thousand (fin s m e) h =
    round_at_most (unlike s false) (m * up e * 1) (125 * 2 ^ 3 * down e) 4000000000000 1000 1953125 11 (omega (arith, down_pos e)) (lit< tt) (omega arith) whole_s

times_million : (x : Float) → AtMost 4000000000 x → AtMost 4000000000000000 (x ⊗ million)
unfolding mul round million
times_million nan h = h
times_million (inf s) h = absurd h
times_million (fin s m e) h =
    round_at_most (unlike s false) (m * up e * (15625 * 2 ^ 6)) (down e * 1) 4000000000000000 1 30517578125 17 (omega (arith, down_pos e)) (lit< tt) (omega arith) whole_us

abs_neg : (n : ℕ) → nat_abs (neg_ℤ (pos n)) ≡ n
abs_neg zero = refl
abs_neg (suc n) = refl

cut_at_most : (x : Float) → AtMost 4000000000000000 x → nat_abs (to_signed 63 x) ≤ 4000000000000000
unfolding to_signed
cut_at_most nan h = absurd h
cut_at_most (inf s) h = absurd h
cut_at_most (fin true m e) h =
    let d : m * up e / down e < 4000000000000001 = (div-lt_iff_lt-mul (down_pos e)).1 (omega (arith, h, down_pos e)) in
    rw abs_neg (omega arith)
cut_at_most (fin false m e) h =
    let d : m * up e / down e < 4000000000000001 = (div-lt_iff_lt-mul (down_pos e)).1 (omega (arith, h, down_pos e)) in
    omega arith

-- ---- a difference of two moments within 4·10^9 s of each other

millis_small : (b : Bool) (t e : ℕ) → leb e t ≡ b → t < e + 4000000000000000000 → e < t + 4000000000000000000 → nat_abs (units_between 1000000 t e) < 4000000000000
unfolding units_between
millis_small true t e q h g = let l = leb-true e t q in simp q (omega arith)
millis_small false t e q h g = let l = leb-false e t q in simp (q, abs_neg) (omega arith)

-- (dt * 1e6) as i64, where dt is their difference
pub shift_micros : (t e : ℕ) → t < e + 4000000000000000000 → e < t + 4000000000000000000
    → nat_abs (to_signed 63 (tau_millis_of t e ⊗ million)) ≤ 4000000000000000
unfolding tau_millis_of
shift_micros t e h g =
    cut_at_most (tau_millis_of t e ⊗ million)
    (times_million (tau_millis_of t e) (over_thousand (of_int binary64 (units_between 1000000 t e)) (of_int_lem (units_between 1000000 t e) (millis_small (leb e t) t e refl h g))))

-- Worked examples, by computation: document 01's table of the generator and the digit maps, then inputs at which bits or refusals turn.
-- Assumes nothing.
use Rattle.std.proofs.Common.{◌≡◌, [], ◌∷◌, Some, None, refl}
use Rattle.refusal.specs.declared.Refusal.TheVariants.{Limits, ShortMemory}
use lib.Ieee.{nan, neg, of_bits, round, of_int, to_unsigned, add, sub, mul, div, lt}
use Rattle.float.specs.Constant.{decimal}
use Rattle.float.specs.Ops.{bits, one, one_bits, floor_of, raised}
use Rattle.roots.specs.Root.{sqrt_of}
use Rattle.loops.specs.Loop.{for, turns}
use Rattle.monna.specs.Rng.{next_state}
use Rattle.monna.specs.Digits.{monna_of, inverse_of, distance_of, digits, placed, digits_added, clamp_of, margin, times, valuation}
use Rattle.monna.specs.Answers.{base_refusal, digits_refusal, history_refusal}
use Rattle.monna.specs.History.{differences_of, difference_at, with_quotient, quotient_of, least_distance, tabulated}

pub state_1 : next_state 1 ≡ 7806831264735756412
state_1 = refl

pub monna_6 : monna_of 6 2 ≡ decimal 375 3
unfolding monna_of digits placed one of_bits round of_int add mul div
monna_6 = refl

pub inverse_6 : inverse_of (decimal 375 3) 2 16 ≡ 6
unfolding inverse_of digits_added clamp_of margin one floor_of of_bits round of_int sub mul to_unsigned lt
inverse_6 = refl

pub monna_top : monna_of 18446744073709551615 2 ≡ one
unfolding monna_of digits placed of_bits of_int add mul div
monna_top = rw (← one_bits) refl

pub distance_8 : distance_of 0 8 2 ≡ decimal 125 3
unfolding distance_of valuation times raised one of_bits round of_int mul div
distance_8 = refl

pub differences_1 : differences_of (decimal 5 0 ∷ []) ≡ bits 0 ∷ []
unfolding differences_of tabulated difference_at for turns with_quotient
differences_1 = refl

pub differences_2 : differences_of (one ∷ bits 0 ∷ []) ≡ one ∷ neg one ∷ []
unfolding differences_of tabulated difference_at for turns with_quotient quotient_of least_distance sqrt_of distance_of valuation times raised one of_bits round of_int mul div sub add lt neg
differences_2 = refl

-- 3^36: the repeated products are not the power's nearest
distance_3 : distance_of 0 150094635296999121 3 ≡ bits 0x3c5eb9a5fa5fe813
unfolding distance_of valuation times raised one of_bits round of_int mul div
distance_3 = refl

-- the inverse map of NaN is 0, and of 1.0 and above all digits are p − 1
inverse_nan : inverse_of nan 2 16 ≡ 0
unfolding inverse_of digits_added clamp_of margin one floor_of of_bits round of_int sub mul to_unsigned lt
inverse_nan = refl

inverse_1 : inverse_of one 2 16 ≡ 65535
unfolding inverse_of digits_added clamp_of margin one floor_of of_bits round of_int sub mul to_unsigned lt
inverse_1 = refl

-- a history of one NaN has the difference 0.0
differences_nan : differences_of (nan ∷ []) ≡ bits 0 ∷ []
unfolding differences_of tabulated difference_at for turns with_quotient
differences_nan = refl

-- bases 1, 2, 7 and 8; 16 and 17 digits; 64 and 65 numbers, and a place too few
bases : (base_refusal 1 ∷ base_refusal 2 ∷ base_refusal 7 ∷ base_refusal 8 ∷ []) ≡ (Some Limits ∷ None ∷ None ∷ Some Limits ∷ [])
unfolding base_refusal
bases = refl

many_digits : (digits_refusal 2 16 ∷ digits_refusal 2 17 ∷ []) ≡ (None ∷ Some Limits ∷ [])
unfolding digits_refusal
many_digits = refl

histories : (history_refusal 64 64 ∷ history_refusal 65 0 ∷ history_refusal 2 1 ∷ []) ≡ (None ∷ Some Limits ∷ Some ShortMemory ∷ [])
unfolding history_refusal
histories = refl

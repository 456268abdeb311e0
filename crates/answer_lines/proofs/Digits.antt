-- One more digit of a word. Assumes nothing.
use mathlib.Core.Path.{◌≡◌, refl, sym, ap, ◌∙◌}
use Prim.Native.Nat.{ℕ, ◌+◌, ◌*◌, ◌%◌, ◌^◌, ◌≤◌, ◌<◌}
use native.Mathlib.Nat.{pow-succ', pow-le-pow_right}
use native.Mathlib.Numerals.{add-one}
use native.Mathlib.Omega.{arith}
use mathlib.Core.Bool.{Bool, cond}
use mathlib.Core.List.{List}
use lib.Dec.{ltb, lt→ltb}
use lib.Arith.{le→nltb}
use lib.ListN.{length, take, drop, get_or, drop_of_length-le}
use lib.Seq.{drop-cons}
use lib.Ieee.Bits.{is_true, is_false}
use Rattle.answer_lines.specs.Word.{hex_digit, hex_value, hex_word_at}

-- ---- a digit
pub is_digit_lem : (c : ℕ) → c < 58 → c % 16 ≡ hex_digit c
unfolding hex_digit
is_digit_lem c h = ap (λ (b : Bool). cond b (c % 16) ((c + 9) % 16)) (sym (is_true (ltb c 58) (lt→ltb c 58 h)))

pub is_letter_lem : (c : ℕ) → 58 ≤ c → (c % 16 + 9) % 16 ≡ hex_digit c
unfolding hex_digit
is_letter_lem c h = same c ∙ ap (λ (b : Bool). cond b (c % 16) ((c + 9) % 16)) (sym (is_false (ltb c 58) (le→nltb c 58 h)))
  where
    same : (c : ℕ) → (c % 16 + 9) % 16 ≡ (c + 9) % 16
    same c = omega arith

-- ---- the first i digits are read

pub record Read (digits : List ℕ) (value i : ℕ) : Type 0 where
  pub room : value < 16 ^ i
  pub is : hex_value value (drop i digits) ≡ hex_value 0 digits

-- sixteen digits are room for a word
pub fits : {value i n : ℕ} → value < 16 ^ i → i < n → n ≤ 16 → value * 16 + 15 < 18446744073709551616
fits {value} {i} {n} r h g = go (16 ^ i) r (pow-le-pow_right {n = 16} (omega arith) (let k : i ≤ 15 = omega arith in k))
  where
    go : (p : ℕ) → value < p → p ≤ 16 ^ 15 → value * 16 + 15 < 18446744073709551616
    go p h g = omega (arith, h, g)

pub begin : (digits : List ℕ) → Read digits 0 0
begin digits = record { room = omega arith; is = refl }

pub more : {digits : List ℕ} {value i d : ℕ} → Read digits value i → i < length digits → d ≡ hex_digit (get_or digits i 0) → d < 16 → Read digits (value * 16 + d) (i + 1)
unfolding hex_value
more {digits} {value} {i} {d} r h e s = record {
  room = rw (add-one i, pow-succ' 16 i) (wider value d (16 ^ i) r.room s);
  is = rw (e, add-one i) (rw (drop-cons digits i 0 h) at r.is);
}
  where
    wider : (v d p : ℕ) → v < p → d < 16 → v * 16 + d < 16 * p
    wider v d p h g = omega (arith, h, g)

pub read_all : (line : List ℕ) (at : ℕ) {digits : List ℕ} {value i : ℕ} → Read digits value i → length digits ≤ i → digits ≡ take 16 (drop at line) → value ≡ hex_word_at line at
unfolding hex_value hex_word_at
read_all line at {digits} r h e = (rw (drop_of_length-le digits h) at r.is) ∙ ap (hex_value 0) e

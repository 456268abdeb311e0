-- The meaning of `hex_value`: it reads back the hexadecimal digits of a number. Assumes nothing.
use mathlib.Core.Path.{◌≡◌, refl, sym, ap, ◌∙◌, subst}
use Prim.Native.Nat.{ℕ, zero, suc, ◌+◌, ◌*◌, ◌/◌, ◌%◌, ◌^◌, ◌≤◌, ◌<◌}
use native.Mathlib.Nat.{pow-suc}
use native.Mathlib.Omega.{arith}
use mathlib.Core.Bool.{Bool, true, false, not, cond}
use mathlib.Core.List.{List, [], ◌∷◌, ◌++◌}
use lib.Dec.{T, ltb, ltb→lt, nltb→le}
use Rattle.answer_lines.specs.Word.{hex_digit, hex_value}
use Rattle.answer_lines.proofs.Digits.{is_digit_lem, is_letter_lem}

-- a digit below 16 as text: `0` to `9`, then `a` to `f`
abbrev pub hex_digit_ascii : ℕ → ℕ
hex_digit_ascii d = cond (ltb d 10) (48 + d) (87 + d)

-- the last k digits of n in base b, the most significant first
abbrev pub last_digits : ℕ → ℕ → ℕ → List ℕ
last_digits b zero n = []
last_digits b (suc k) n = last_digits b k (n / b) ++ (hex_digit_ascii (n % b) ∷ [])

value_last : (v : ℕ) (cs : List ℕ) (c : ℕ) → hex_value v (cs ++ (c ∷ [])) ≡ hex_value v cs * 16 + hex_digit c
unfolding hex_value
value_last v [] c = refl
value_last v (x ∷ cs) c = value_last (v * 16 + hex_digit x) cs c

digit_back : (d : ℕ) → d < 16 → hex_digit (hex_digit_ascii d) ≡ d
digit_back d h = go (ltb d 10) (ltb→lt d 10) (nltb→le d 10)
  where
    low : (d : ℕ) → d < 10 → ((48 + d) % 16 ≡ d) × (48 + d < 58)
    low d h = (omega arith, omega arith)

    high : (d : ℕ) → 10 ≤ d → d < 16 → (((87 + d) % 16 + 9) % 16 ≡ d) × (58 ≤ 87 + d)
    high d h k = (omega arith, omega arith)

    go : (b : Bool) → (T b → d < 10) → (T (not b) → 10 ≤ d) → hex_digit (cond b (48 + d) (87 + d)) ≡ d
    go true l g = let w = low d (l tt) in sym (is_digit_lem (48 + d) w.1) ∙ w.0
    go false l g = let w = high d (g tt) h in sym (is_letter_lem (87 + d) w.1) ∙ w.0

pub value_digits : (k n v : ℕ) → n < 16 ^ k → hex_value v (last_digits 16 k n) ≡ v * 16 ^ k + n
unfolding hex_value
value_digits zero n v h = none v n h
  where
    none : (v n : ℕ) → n < 1 → v ≡ v * 1 + n
    none v n h = omega arith
value_digits (suc k) n v h =
    value_last v (last_digits 16 k (n / 16)) (hex_digit_ascii (n % 16)) ∙ ap (λ (z : ℕ). z * 16 + hex_digit (hex_digit_ascii (n % 16))) (value_digits k (n / 16) v (less (16 ^ k) n (subst (λ (z : ℕ). n < z) (pow-suc 16 k) h)))
    ∙ ap (λ (z : ℕ). (v * 16 ^ k + n / 16) * 16 + z) (digit_back (n % 16) (small n)) ∙ sum (16 ^ k) n ∙ ap (λ (z : ℕ). v * z + n) (sym (pow-suc 16 k))
  where
    less : (p n : ℕ) → n < p * 16 → n / 16 < p
    less p n h = omega arith

    small : (n : ℕ) → n % 16 < 16
    small n = omega arith

    sum : (p n : ℕ) → (v * p + n / 16) * 16 + n % 16 ≡ v * (p * 16) + n
    sum p n = omega arith

pub reads_back : (n : ℕ) → n < 2 ^ 64 → hex_value 0 (last_digits 16 16 n) ≡ n
reads_back n h = value_digits 16 n 0 h ∙ none n
  where
    none : (n : ℕ) → 0 * 16 ^ 16 + n ≡ n
    none n = omega arith

-- Little-endian numbers, byte by byte. Assumes nothing.
use mathlib.Core.Path.{◌≡◌, refl, sym, ap, ◌∙◌}
use mathlib.Core.List.{List, [], ◌∷◌, ◌++◌}
use Prim.Native.Nat.{ℕ, zero, suc, ◌+◌, ◌*◌, ◌/◌, ◌%◌, ◌^◌}
use native.Mathlib.Nat.{add-zero, pow-suc}
use native.Mathlib.Numerals.{add-one}
use native.Mathlib.Omega.{arith}
use lib.ListN.{length, get_or, take, drop, set}
use lib.Seq.{sets}
use Rattle.std.proofs.Math.Nat.{div-div-eq-div-mul}
use Rattle.std.specs.Int.{w32, w64, from_le_bytes, to_le_bytes, byte_at, bytes_low_first}
use Rattle.stored.specs.Numbers.{little_endian, low_bytes}

-- ---- reading

-- past the end stand zeros
le_at : (n : ℕ) (l : List ℕ) (i : ℕ) → little_endian (suc n) (drop i l) ≡ get_or l i 0 + 256 * little_endian n (drop (suc i) l)
unfolding little_endian
le_at zero [] zero = refl
le_at (suc n) [] zero = refl
le_at n (b ∷ l) zero = refl
le_at zero [] (suc i) = refl
le_at (suc n) [] (suc i) = refl
le_at n (b ∷ l) (suc i) = le_at n l i

le_none : (l : List ℕ) → little_endian 0 l ≡ 0
unfolding little_endian
le_none l = refl

-- the library's words
pub from_word : (l : List ℕ) → from_le_bytes w32 l ≡ little_endian 4 l
from_word l = let a = le_at 3 l 0 in let b = le_at 2 l 1 in let c = le_at 1 l 2 in let d = le_at 0 l 3 in let e = le_none (drop 4 l) in omega arith

pub from_double : (l : List ℕ) → from_le_bytes w64 l ≡ little_endian 8 l
from_double l =
    let a = le_at 7 l 0 in
    let b = le_at 6 l 1 in
    let c = le_at 5 l 2 in
    let d = le_at 4 l 3 in
    let e = le_at 3 l 4 in
    let f = le_at 2 l 5 in
    let g = le_at 1 l 6 in
    let h = le_at 0 l 7 in
    let z = le_none (drop 8 l) in
    omega arith

-- four bytes of a list, as a list of their own
pub from_word_at : (l : List ℕ) (at : ℕ) → from_le_bytes w32 (get_or l at 0 ∷ get_or l (at + 1) 0 ∷ get_or l (at + 2) 0 ∷ get_or l (at + 3) 0 ∷ []) ≡ little_endian 4 (drop at l)
from_word_at l at =
    let a = le_at 3 l at in
    let b = le_at 2 l (suc at) in
    let c = le_at 1 l (suc (suc at)) in
    let d = le_at 0 l (suc (suc (suc at))) in
    let e = le_none (drop (suc (suc (suc (suc at)))) l) in
    rw (add-one at, two at, three at) (omega arith)
  where
    two : (n : ℕ) → n + 2 ≡ suc (suc n)
    two n = omega arith

    three : (n : ℕ) → n + 3 ≡ suc (suc (suc n))
    three n = omega arith

-- the first bytes alone decide
pub le_take : (n : ℕ) (l : List ℕ) → little_endian n (take n l) ≡ little_endian n l
unfolding little_endian
le_take zero l = refl
le_take (suc n) [] = refl
le_take (suc n) (b ∷ l) = ap (λ (k : ℕ). b + 256 * k) (le_take n l)

-- ---- writing

byte_is : (i v : ℕ) → byte_at i v ≡ v / 256 ^ i % 256
byte_is zero v = ap (λ (k : ℕ). k % 256) (omega arith)
byte_is (suc i) v = refl

pub low_first : (i k v : ℕ) → bytes_low_first i k v ≡ low_bytes k (v / 256 ^ i)
unfolding low_bytes
low_first i zero v = refl
low_first i (suc k) v =
    (λ j. byte_is i v j ∷ low_first (suc i) k v j)
    ∙ ap (λ (u : ℕ). v / 256 ^ i % 256 ∷ low_bytes k u) (ap (λ (p : ℕ). v / p) (pow-suc 256 i) ∙ sym (div-div-eq-div-mul v (256 ^ i) 256))

to_bytes : (k v : ℕ) → bytes_low_first 0 k v ≡ low_bytes k v
to_bytes k v = low_first 0 k v ∙ ap (low_bytes k) (omega arith)

pub to_bytes_4 : (v : ℕ) → to_le_bytes w32 v ≡ low_bytes 4 v
to_bytes_4 v = to_bytes 4 v

pub to_bytes_8 : (v : ℕ) → to_le_bytes w64 v ≡ low_bytes 8 v
to_bytes_8 v = to_bytes 8 v

pub sets_append : {A : Type 0} (xs ys : List A) (l : List A) (i : ℕ) → sets l i (xs ++ ys) ≡ sets (sets l i xs) (i + length xs) ys
sets_append [] ys l i = ap (λ (k : ℕ). sets l k ys) (sym (add-zero i))
sets_append (x ∷ xs) ys l i = sets_append xs ys (set l i x) (suc i) ∙ ap (λ (k : ℕ). sets (sets (set l i x) (suc i) xs) k ys) (next i (length xs))
  where
    next : (i n : ℕ) → suc i + n ≡ i + suc n
    next i n = omega arith

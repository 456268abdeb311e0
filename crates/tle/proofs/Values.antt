-- A printed number, read back from its bytes, is the number; and each of its bytes is of its column's class. Assumes nothing.
use mathlib.Core.Path.{◌≡◌, refl, sym, ap, ◌∙◌, subst}
use mathlib.Core.Logic.{◌⊎◌, inl, inr}
use mathlib.Core.Bool.{Bool, true, false, ◌||◌, cond}
use mathlib.Core.List.{List, [], ◌∷◌, ◌++◌}
use Prim.Native.Nat.{ℕ, zero, suc, ◌+◌, ◌-◌, ◌*◌, ◌/◌, ◌%◌, ◌^◌, ◌≤◌, ◌<◌}
use native.Mathlib.Nat.{mod-lt, mul_assoc, add-mul, pow-succ', pow-suc, div-add-mod', div-eq_of_lt, div-div-eq-div-mul, lt_of_lt_of_le}
use native.Mathlib.Omega.{arith}
use lib.Dec.{T, leb, ltb, eqb, lit<, eqb_refl}
use lib.Arith.{mod-mul}
use lib.Ieee.Fits.{and_i, and_l, and_r}
use borrow.Author.Tests.{lt-ltb, le-ltb, le-leb, lt-leb, eq-eqb, ne_eqb, leb-false, ltb-false, eqb-false}
use Rattle.laws.proofs.Numbers.{lt_or_ge}
use Rattle.decimal.specs.Fixed.{digit_at, cell_at, fixed_text}
use Rattle.decimal.proofs.Round.{ten_pos}
use Rattle.decimal.specs.Read.{is_digit}
use Rattle.tle.specs.Printed.{Class, only, digit, admits, matches_behind, exactly, read_digits}

-- ---- reading one byte
pub is_digit_lem : (d : ℕ) → d < 10 → T (is_digit (d + 48))
is_digit_lem d h = simp (le-leb 48 (d + 48) (omega arith), le-leb (d + 48) 57 (omega arith)) tt

pub digit_value : (a d : ℕ) (l : List ℕ) → d < 10 → read_digits a ((d + 48) ∷ l) ≡ read_digits (a * 10 + d) l
unfolding read_digits
digit_value a d l h =
    let e : d + 48 - 48 ≡ d = omega arith in
    simp (le-leb 48 (d + 48) (omega arith), le-leb (d + 48) 57 (omega arith), e)

skip_point : (a : ℕ) (l : List ℕ) → read_digits a (46 ∷ l) ≡ read_digits a l
unfolding read_digits
skip_point a l = refl

module _ (pad p n : ℕ) where
  text_suc : (w : ℕ) → fixed_text pad p n (suc w) ≡ cell_at pad p n w ∷ fixed_text pad p n w
  unfolding fixed_text
  text_suc w = refl

  -- ---- what stands in a column
  cell_low : (w : ℕ) → w < p → cell_at pad p n w ≡ digit_at n w
  unfolding cell_at
  cell_low w h = simp (lt-ltb w p h)

  cell_point : cell_at pad p n p ≡ 46
  unfolding cell_at
  cell_point = simp (le-ltb p p (omega arith), eq-eqb p p refl)

  cell_left : (u : ℕ) → p < suc u → cell_at pad p n (suc u) ≡ cond (eqb u p || leb (10 ^ u) n) (digit_at n u) pad
  unfolding cell_at
  cell_left u h =
      let e : suc u - 1 ≡ u = omega arith in
      simp (le-ltb (suc u) p (omega arith), ne_eqb (suc u) p (λ z. omega arith), e)

  -- ---- after the point
  next : (a P : ℕ) → 0 < P → (a * 10 + n / P % 10) * P + n % P ≡ a * (10 * P) + n % (10 * P)
  next a P h =
      let m : n % (10 * P) ≡ n / P % 10 * P + n % P = mod-mul n {m = 10} {c = P} (lit< tt) h in
      let s : (a * 10 + n / P % 10) * P ≡ a * 10 * P + n / P % 10 * P = add-mul (a * 10) (n / P % 10) P in
      let t : a * 10 * P ≡ a * (10 * P) = mul_assoc a 10 P in
      omega (arith, m, s, t)

  places : (a w : ℕ) → w ≤ p → read_digits a (fixed_text pad p n w) ≡ a * 10 ^ w + n % 10 ^ w
  places a zero h = unfold read_digits fixed_text in omega arith
  places a (suc w) h =
      ap (read_digits a) (text_suc w) ∙ ap (λ (c : ℕ). read_digits a (c ∷ fixed_text pad p n w)) (cell_low w (omega arith))
      ∙ digit_value a (n / 10 ^ w % 10) (fixed_text pad p n w) (mod-lt (n / 10 ^ w) (lit< tt))
      ∙ places (a * 10 + n / 10 ^ w % 10) w (omega arith) ∙ next a (10 ^ w) (ten_pos w) ∙ ap (λ (x : ℕ). a * x + n % x) (sym (pow-succ' 10 w))

  -- ---- the point
  at_point : (a : ℕ) → read_digits a (fixed_text pad p n (suc p)) ≡ a * 10 ^ p + n % 10 ^ p
  at_point a = ap (read_digits a) (text_suc p) ∙ ap (λ (c : ℕ). read_digits a (c ∷ fixed_text pad p n p)) cell_point ∙ skip_point a (fixed_text pad p n p) ∙ places a p (omega arith)

  -- ---- before the point
  tenth : (u : ℕ) → n / 10 ^ suc u * 10 + n / 10 ^ u % 10 ≡ n / 10 ^ u
  tenth u =
      let e : n / 10 ^ suc u ≡ n / 10 ^ u / 10 = ap (λ (x : ℕ). n / x) (pow-suc 10 u) ∙ sym (div-div-eq-div-mul n (10 ^ u) 10) in
      omega (arith, e)

  abbrev pub Pads : Type 0
  Pads = (pad ≡ 32) ⊎ (pad ≡ 48)

  pad_value : (l : List ℕ) → Pads → read_digits 0 (pad ∷ l) ≡ read_digits 0 l
  unfolding read_digits
  pad_value l (inl e) = rw e
  pad_value l (inr e) = rw e

  low_zero : (u : ℕ) → n < 10 ^ u → (n / 10 ^ u ≡ 0) × (n / 10 ^ suc u ≡ 0)
  low_zero u h = (div-eq_of_lt h, div-eq_of_lt (lt_of_lt_of_le h (ten_le u)))
    where
      ten_le : (u : ℕ) → 10 ^ u ≤ 10 ^ suc u
      ten_le u = let e : 10 ^ suc u ≡ 10 ^ u * 10 = pow-suc 10 u in omega (arith, e)

  -- one more column on the left, by the test of whether it holds a digit
  column : (u : ℕ) (b c : Bool) → eqb u p ≡ b → leb (10 ^ u) n ≡ c → Pads → read_digits (n / 10 ^ u) (fixed_text pad p n (suc u)) ≡ n
      → read_digits (n / 10 ^ suc u) (cond (b || c) (digit_at n u) pad ∷ fixed_text pad p n (suc u)) ≡ n
  column u true c e f q h = digit_value (n / 10 ^ suc u) (n / 10 ^ u % 10) (fixed_text pad p n (suc u)) (mod-lt (n / 10 ^ u) (lit< tt)) ∙ ap (λ (x : ℕ). read_digits x (fixed_text pad p n (suc u))) (tenth u) ∙ h
  column u false true e f q h = digit_value (n / 10 ^ suc u) (n / 10 ^ u % 10) (fixed_text pad p n (suc u)) (mod-lt (n / 10 ^ u) (lit< tt)) ∙ ap (λ (x : ℕ). read_digits x (fixed_text pad p n (suc u))) (tenth u) ∙ h
  column u false false e f q h =
      let z = low_zero u (leb-false (10 ^ u) n f) in
      ap (λ (x : ℕ). read_digits x (pad ∷ fixed_text pad p n (suc u))) z.1 ∙ pad_value (fixed_text pad p n (suc u)) q ∙ ap (λ (x : ℕ). read_digits x (fixed_text pad p n (suc u))) (sym z.0) ∙ h

  at_once : (w : ℕ) → w ≡ p → read_digits (n / 10 ^ w) (fixed_text pad p n (suc w)) ≡ n
  at_once w e = ap (λ (x : ℕ). read_digits (n / 10 ^ x) (fixed_text pad p n (suc x))) e ∙ at_point (n / 10 ^ p) ∙ div-add-mod' n (10 ^ p)

  further : (u : ℕ) → Pads → p < suc u → read_digits (n / 10 ^ u) (fixed_text pad p n (suc u)) ≡ n → read_digits (n / 10 ^ suc u) (fixed_text pad p n (suc (suc u))) ≡ n
  further u q k h =
      ap (read_digits (n / 10 ^ suc u)) (text_suc (suc u)) ∙ ap (λ (c : ℕ). read_digits (n / 10 ^ suc u) (c ∷ fixed_text pad p n (suc u))) (cell_left u k)
      ∙ column u (eqb u p) (leb (10 ^ u) n) refl refl q h

  left : (w : ℕ) → Pads → p ≤ w → read_digits (n / 10 ^ w) (fixed_text pad p n (suc w)) ≡ n
  left zero q h = at_once 0 (omega arith)
  left (suc u) q h = elim (lt_or_ge p (suc u)) [ inl k ↦ further u q k (left u q (omega arith)) | inr k ↦ at_once (suc u) (omega arith) ]

  pub value_text : (w : ℕ) → Pads → p ≤ w → n < 10 ^ w → read_digits 0 (fixed_text pad p n (suc w)) ≡ n
  value_text w q h l = ap (λ (x : ℕ). read_digits x (fixed_text pad p n (suc w))) (sym (div-eq_of_lt l)) ∙ left w q h

-- ---- the classes of a text's columns: left of the digit before the point the class k, in the first column k₀
abbrev pub cell_class : Class → ℕ → ℕ → Class
cell_class k p i = cond (ltb i p) digit (cond (eqb i p) (only 46) (cond (eqb (i - 1) p) digit k))

abbrev pub later_classes : Class → ℕ → ℕ → List Class
later_classes k p zero = []
later_classes k p (suc w) = cell_class k p w ∷ later_classes k p w

abbrev pub field_classes : Class → Class → ℕ → ℕ → List Class
field_classes k₀ k p w = cell_class k₀ p w ∷ later_classes k p w

digit_at_lem : (n i : ℕ) → T (is_digit (digit_at n i))
digit_at_lem n i = is_digit_lem (n / 10 ^ i % 10) (mod-lt (n / 10 ^ i) (lit< tt))

-- a class that takes every digit
unfoldable pub Digital : Class → Type 0
Digital k = (b c : ℕ) → T (is_digit c) → T (admits k b c)

module _ (pad p n : ℕ) where
  admits_cell : (k : Class) (b i : ℕ) (x y z t : Bool) → Digital k → (x ≡ false → y ≡ false → z ≡ false → t ≡ false → T (admits k b pad))
      → T (admits (cond x digit (cond y (only 46) (cond z digit k))) b (cond x (digit_at n i) (cond y 46 (cond (z || t) (digit_at n (i - 1)) pad))))
  unfolding Digital
  admits_cell k b i true y z t any own = digit_at_lem n i
  admits_cell k b i false true z t any own = tt
  admits_cell k b i false false true t any own = digit_at_lem n (i - 1)
  admits_cell k b i false false false true any own = any b (digit_at n (i - 1)) (digit_at_lem n (i - 1))
  admits_cell k b i false false false false any own = own refl refl refl refl

  -- a column is of its class if what pads it is, where it is a leading place and n has no digit there
  column_admits : (k : Class) (b i : ℕ) → Digital k → (p + 1 < i → n < 10 ^ (i - 1) → T (admits k b pad)) → T (admits (cell_class k p i) b (cell_at pad p n i))
  unfolding cell_at
  column_admits k b i any own =
      admits_cell k b i (ltb i p) (eqb i p) (eqb (i - 1) p) (leb (10 ^ (i - 1)) n) any (λ x y z t. own (beyond i x y z) (leb-false (10 ^ (i - 1)) n t))
    where
      beyond : (i : ℕ) → ltb i p ≡ false → eqb i p ≡ false → eqb (i - 1) p ≡ false → p + 1 < i
      beyond i x y z = omega (arith, ltb-false i p x, eqb-false i p y, eqb-false (i - 1) p z)

  -- what pads a leading place stands on its left too
  still : (u : ℕ) → p + 1 < u → n < 10 ^ (u - 1) → cell_at pad p n (suc u) ≡ pad
  still zero h l = absurd (omega arith)
  still (suc t) h l =
      let e : suc t - 1 ≡ t = omega arith in
      let m : 10 ^ suc t ≡ 10 ^ t * 10 = pow-suc 10 t in
      let l' : n < 10 ^ t = subst (λ (x : ℕ). n < 10 ^ x) e l in
      cell_left pad p n (suc t) (omega arith) ∙ simp (ne_eqb (suc t) p (λ z. omega arith), lt-leb (10 ^ suc t) n (omega (arith, m)))

  abbrev Padded : ℕ → ℕ → Type 0
  Padded w b = (u : ℕ) → w ≡ suc u → p + 1 < u → n < 10 ^ (u - 1) → b ≡ pad

  follows : (w : ℕ) → Padded w (cell_at pad p n w)
  follows w u e h l = ap (cell_at pad p n) e ∙ still u h l

  module _ (k : Class) (any : Digital k) (own : (b : ℕ) → b ≡ pad → T (admits k b pad)) where
    later_matches : (w b : ℕ) → Padded w b → T (matches_behind b (later_classes k p w) (fixed_text pad p n w))
    unfolding matches_behind fixed_text
    later_matches zero b f = tt
    later_matches (suc w) b f =
        and_i (admits (cell_class k p w) b (cell_at pad p n w)) (matches_behind (cell_at pad p n w) (later_classes k p w) (fixed_text pad p n w))
        (column_admits k b w any (λ h l. own b (f w refl h l))) (later_matches w (cell_at pad p n w) (follows w))

    pub field_matches : (k₀ : Class) → Digital k₀ → ((b : ℕ) → T (admits k₀ b pad)) → (w b : ℕ) → T (matches_behind b (field_classes k₀ k p w) (fixed_text pad p n (suc w)))
    unfolding matches_behind fixed_text
    field_matches k₀ any₀ own₀ w b =
        and_i (admits (cell_class k₀ p w) b (cell_at pad p n w)) (matches_behind (cell_at pad p n w) (later_classes k p w) (fixed_text pad p n w))
        (column_admits k₀ b w any₀ (λ h l. own₀ b)) (later_matches w (cell_at pad p n w) (follows w))

-- ---- a list whose columns are right behind any byte
unfoldable pub Right : List Class → List ℕ → Type 0
Right ks l = (b : ℕ) → T (matches_behind b ks l)

pub right_cons : (k : Class) (ks : List Class) (c : ℕ) (l : List ℕ) → ((b : ℕ) → T (admits k b c)) → Right ks l → Right (k ∷ ks) (c ∷ l)
unfolding Right matches_behind
right_cons k ks c l p q b = and_i (admits k b c) (matches_behind c ks l) (p b) (q c)

behind_append : (b : ℕ) (ks ls : List Class) (a l : List ℕ) → T (matches_behind b ks a) → Right ls l → T (matches_behind b (ks ++ ls) (a ++ l))
unfolding Right matches_behind
behind_append b [] ls [] l p q = q b
behind_append b [] ls (c ∷ a) l p q = absurd p
behind_append b (k ∷ ks) ls [] l p q = absurd p
behind_append b (k ∷ ks) ls (c ∷ a) l p q =
    and_i (admits k b c) (matches_behind c (ks ++ ls) (a ++ l)) (and_l (admits k b c) (matches_behind c ks a) p) (behind_append c ks ls a l (and_r (admits k b c) (matches_behind c ks a) p) q)

pub right_append : (ks ls : List Class) (a l : List ℕ) → Right ks a → Right ls l → Right (ks ++ ls) (a ++ l)
unfolding Right
right_append ks ls a l p q b = behind_append b ks ls a l (p b) q

pub exact : (l : List ℕ) → Right (exactly l) l
unfolding Right matches_behind
exact [] b = tt
exact (c ∷ l) b = and_i (eqb c c) (matches_behind c (exactly l) l) (eqb_refl c) (exact l c)

-- `number` takes the texts of the grammar and no others, each for what the grammar says it comes to. Assumes nothing.
use mathlib.Core.Path.{◌≡◌, refl, sym, ap, ◌∙◌, subst}
use mathlib.Core.Bool.{Bool, true, false, ◌&&◌, cond}
use mathlib.Core.List.{List, [], ◌∷◌, ◌++◌, append-nil, append_assoc}
use Prim.Native.Nat.{ℕ, zero, suc, ◌+◌, ◌-◌, ◌*◌, ◌^◌, ◌≤◌, ◌<◌}
use mathlib.Core.Logic.{◌⊎◌, inl, inr}
use native.Mathlib.Nat.{eq-zero-or-pos, add-zero}
use native.Mathlib.Omega.{arith}
use lib.Dec.{leb, ltb, eqb}
use lib.ListN.{length, get_or, take, drop, drop_of_length-le, length-drop, length-append, take-append-drop}
use lib.Seq.{get_or-append-add, drop-drop, take_all, take_at, drop_at, get_or_at, length-take-le}
use lib.Ieee.{nan, inf, binary64, round}
use borrow.Author.Tests.{eq-eqb, ne_eqb, eqb-true, eqb-false, le-leb, lt-leb, leb-true}
use Rattle.std.proofs.Common.{Ok, Err}
use Rattle.laws.proofs.Tests.{and_true}
use Rattle.laws.proofs.Lists.{here}
use Rattle.text.specs.Text.{bytes}
use Rattle.decimal.specs.Read.{Number, is_digit, digit_run, with_digits, lower, spells, name, sized, exponent_at, exponent, ended, unsigned, number}
use Rattle.decimal.specs.Grammar.{Digits, no_digit, digit, Sign, no_sign, plus, minus, Mantissa, whole, point_last, point_first, Exp, no_exp, exp, numeral_value, limited, Body, is_inf, is_infinity, is_nan_lem, is_number, Written, written}
use Rattle.decimal.specs.declared.read.NumberError.TheVariants.{NotANumber, TooLong}
use Rattle.decimal.proofs.Scan.{present, spells_length}

-- ---- runs of digits

pub run_most : (l : List ℕ) → digit_run l ≤ length l
unfolding digit_run
run_most [] = omega arith
run_most (c ∷ l) = go (is_digit c) (run_most l)
  where
    go : (b : Bool) → digit_run l ≤ length l → cond b (suc (digit_run l)) 0 ≤ suc (length l)
    go true h = omega arith
    go false h = omega arith

pub run_digits : (l : List ℕ) → Digits (take (digit_run l) l)
unfolding digit_run
run_digits [] = no_digit
run_digits (c ∷ l) = go (is_digit c) refl (run_digits l)
  where
    go : (b : Bool) → is_digit c ≡ b → Digits (take (digit_run l) l) → Digits (take (cond b (suc (digit_run l)) 0) (c ∷ l))
    go true e d = digit e d
    go false e d = no_digit

-- a list that begins with no digit
pub data Stops : List ℕ → Type 0 where
  at_end : Stops []
  at_other : {c : ℕ} {l : List ℕ} → is_digit c ≡ false → Stops (c ∷ l)

pub digits_run : {ds : List ℕ} (r : List ℕ) → Digits ds → Stops r → digit_run (ds ++ r) ≡ length ds
unfolding digit_run
digits_run r no_digit s = go r s
  where
    go : (r : List ℕ) → Stops r → digit_run r ≡ 0
    go [] at_end = refl
    go (c ∷ r) (at_other e) = simp e
digits_run r (digit e d) s = simp e (ap suc (digits_run r d s))

-- ---- the number that digits write

pub value_numeral : (a n : ℕ) (l : List ℕ) → with_digits a n l ≡ numeral_value a (take n l)
unfolding with_digits numeral_value
value_numeral a zero l = refl
value_numeral a (suc n) [] = refl
value_numeral a (suc n) (c ∷ l) = value_numeral (a * 10 + (c - 48)) n l

numeral_join : (a : ℕ) (x y : List ℕ) → numeral_value (numeral_value a x) y ≡ numeral_value a (x ++ y)
unfolding numeral_value
numeral_join a [] y = refl
numeral_join a (c ∷ x) y = numeral_join (a * 10 + (c - 48)) x y

-- the scanner's places w, p and x, n hold the digits ds and es
sized_limited : (s : Bool) (l : List ℕ) (w p : ℕ) (en : Bool) (x n : ℕ) (ds es : List ℕ) → take w l ++ take p (drop (w + 1) l) ≡ ds → w + p ≡ length ds → take n (drop x l) ≡ es → n ≡ length es
    → sized s l w p en x n ≡ limited s ds p en es
unfolding sized limited
sized_limited s l w p en x n ds es f g h k =
    let d : with_digits (with_digits 0 w l) p (drop (w + 1) l) ≡ numeral_value 0 ds =
    value_numeral (with_digits 0 w l) p (drop (w + 1) l) ∙ ap (λ (a : ℕ). numeral_value a (take p (drop (w + 1) l))) (value_numeral 0 w l) ∙ numeral_join 0 (take w l) (take p (drop (w + 1) l)) ∙ ap (numeral_value 0) f in
    let e : with_digits 0 n (drop x l) ≡ numeral_value 0 es = value_numeral 0 n (drop x l) ∙ ap (numeral_value 0) h in
    (λ i. cond (ltb 19 (g i)) (Err TooLong) (cond (ltb 2 (k i)) (Err TooLong) (cond (ltb 30 (e i)) (Err TooLong) (Ok (round binary64 s (d i * 10 ^ cond en 0 (e i)) (10 ^ (p + cond en (e i) 0)))))))

-- ---- from the scanner to the grammar

-- a text is no number, or what P says of it
pub data Said (P : Number → Type 0) : Number → Type 0 where
  nothing : Said P (Err NotANumber)
  this : {v : Number} → P v → Said P v

-- the scanner's places w and p in l hold the digits ds of the mantissa m
record Found (l : List ℕ) (w p : ℕ) (m ds : List ℕ) : Type 0 where
  pub is : Mantissa m ds p
  pub digits : take w l ++ take p (drop (w + 1) l) ≡ ds
  pub count : w + p ≡ length ds
  pub some_digit : 0 < w + p

module _ (s : Bool) (l : List ℕ) (w p : ℕ) (m ds : List ℕ) (f : Found l w p m ds) where
  exponent_at_said : (en : Bool) (x e : ℕ) (sg : List ℕ) → lower e ≡ 101 → Sign sg en → l ≡ m ++ (e ∷ (sg ++ drop x l)) → x ≤ length l → Said (Body s l) (exponent_at s l w p en x)
  unfolding exponent_at
  exponent_at_said en x e sg le S L X = go (eqb (digit_run (drop x l)) 0) refl (eqb (x + digit_run (drop x l)) (length l)) refl
    where
      go : (a : Bool) → eqb (digit_run (drop x l)) 0 ≡ a → (b : Bool) → eqb (x + digit_run (drop x l)) (length l) ≡ b → Said (Body s l) (cond a (Err NotANumber) (cond b (sized s l w p en x (digit_run (drop x l))) (Err NotANumber)))
      go true q b r = nothing
      go false q false r = nothing
      go false q true r =
          let z : x + digit_run (drop x l) ≡ length l = eqb-true (x + digit_run (drop x l)) (length l) r in
          let k = length-drop x l in
          let o : digit_run (drop x l) ≡ length (drop x l) = omega arith in
          let t : take (digit_run (drop x l)) (drop x l) ≡ drop x l = take_all (digit_run (drop x l)) (drop x l) (omega arith) in
          let nz = eqb-false (digit_run (drop x l)) 0 q in
          let more : 0 < length (drop x l) = omega arith in
          this
          (subst (λ (t : List ℕ). Body s t (sized s l w p en x (digit_run (drop x l)))) (sym L)
          (subst (Body s (m ++ (e ∷ (sg ++ drop x l)))) (sym (sized_limited s l w p en x (digit_run (drop x l)) ds (drop x l) f.digits f.count t o))
          (is_number f.is (exp e sg en (drop x l) le S (subst Digits t (run_digits (drop x l))) more))))

  exponent_said : (i : ℕ) → lower (get_or l i 0) ≡ 101 → l ≡ m ++ drop i l → i < length l → Said (Body s l) (exponent s l w p i)
  unfolding exponent
  exponent_said i le L I = go (eqb (get_or l (i + 1) 0) 45) refl (eqb (get_or l (i + 1) 0) 43) refl
    where
      behind : l ≡ m ++ (get_or l i 0 ∷ drop (i + 1) l)
      behind = L ∙ ap (λ (x : List ℕ). m ++ x) (here l i I)

      signed : (c : ℕ) → 0 < c → get_or l (i + 1) 0 ≡ c → (l ≡ m ++ (get_or l i 0 ∷ (c ∷ drop (i + 2) l))) × (i + 2 ≤ length l)
      signed c C e =
          let j = present l (i + 1) c e C in
          let k : i + 1 + 1 ≡ i + 2 = omega arith in
          (behind ∙ ap (λ (x : List ℕ). m ++ (get_or l i 0 ∷ x)) (here l (i + 1) j ∙ (λ z. e z ∷ drop (k z) l)), omega arith)

      go : (a : Bool) → eqb (get_or l (i + 1) 0) 45 ≡ a → (b : Bool) → eqb (get_or l (i + 1) 0) 43 ≡ b
          → Said (Body s l) (cond a (exponent_at s l w p true (i + 2)) (cond b (exponent_at s l w p false (i + 2)) (exponent_at s l w p false (i + 1))))
      go true q b r = let g = signed 45 (omega arith) (eqb-true (get_or l (i + 1) 0) 45 q) in exponent_at_said true (i + 2) (get_or l i 0) (45 ∷ []) le minus g.0 g.1
      go false q true r = let g = signed 43 (omega arith) (eqb-true (get_or l (i + 1) 0) 43 r) in exponent_at_said false (i + 2) (get_or l i 0) (43 ∷ []) le plus g.0 g.1
      go false q false r = exponent_at_said false (i + 1) (get_or l i 0) [] le no_sign behind (omega arith)

  ended_said : (i : ℕ) → l ≡ m ++ drop i l → i ≤ length l → Said (Body s l) (ended s l w p i)
  unfolding ended
  ended_said i L I =
      subst (λ (z : Bool). Said (Body s l) (cond z (name s l) rest)) (sym (ne_eqb (w + p) 0 (λ (e : w + p ≡ 0). let h = f.some_digit in omega arith)))
      (go (eqb i (length l)) refl (eqb (get_or l i 0) 101) refl (eqb (get_or l i 0) 69) refl)
    where
      rest : Number
      rest = cond (eqb i (length l)) (sized s l w p false i 0) (cond (eqb (get_or l i 0) 101) (exponent s l w p i) (cond (eqb (get_or l i 0) 69) (exponent s l w p i) (Err NotANumber)))

      go : (a : Bool) → eqb i (length l) ≡ a → (b : Bool) → eqb (get_or l i 0) 101 ≡ b → (d : Bool) → eqb (get_or l i 0) 69 ≡ d
          → Said (Body s l) (cond a (sized s l w p false i 0) (cond b (exponent s l w p i) (cond d (exponent s l w p i) (Err NotANumber))))
      go true q b r d t =
          let z : i ≡ length l = eqb-true i (length l) q in
          let h : length l ≤ i = omega arith in
          let k : l ≡ m ++ [] = L ∙ ap (λ (x : List ℕ). m ++ x) (drop_of_length-le l h) in
          this (subst (λ (t : List ℕ). Body s t (sized s l w p false i 0)) (sym k) (subst (Body s (m ++ [])) (sym (sized_limited s l w p false i 0 ds [] f.digits f.count refl refl)) (is_number f.is no_exp)))
      go false q true r d t = let ne = eqb-false i (length l) q in exponent_said i (ap lower (eqb-true (get_or l i 0) 101 r)) L (omega arith)
      go false q false r true t = let ne = eqb-false i (length l) q in exponent_said i (ap lower (eqb-true (get_or l i 0) 69 t)) L (omega arith)
      go false q false r false t = nothing

name_said : (s : Bool) (l : List ℕ) → Said (Body s l) (name s l)
unfolding name
name_said s l = go (spells l (bytes "inf")) refl (spells l (bytes "infinity")) refl (spells l (bytes "nan")) refl
  where
    go : (a : Bool) → spells l (bytes "inf") ≡ a → (b : Bool) → spells l (bytes "infinity") ≡ b → (c : Bool) → spells l (bytes "nan") ≡ c
        → Said (Body s l) (cond a (Ok (inf s)) (cond b (Ok (inf s)) (cond c (Ok nan) (Err NotANumber))))
    go true p b q c r = this (is_inf l p)
    go false p true q c r = this (is_infinity l q)
    go false p false q true r = this (is_nan_lem l r)
    go false p false q false r = nothing

-- no digit at all: only a name
ended_name : (s : Bool) (l : List ℕ) (w p i : ℕ) → w + p ≡ 0 → Said (Body s l) (ended s l w p i)
unfolding ended
ended_name s l w p i e = rw (eq-eqb (w + p) 0 e) (name_said s l)

-- digits, a point, digits
pointed_said : (s : Bool) (l : List ℕ) (w p : ℕ) → w ≡ digit_run l → get_or l w 0 ≡ 46 → p ≡ digit_run (drop (w + 1) l) → Said (Body s l) (ended s l w p (w + 1 + p))
pointed_said s l w p ew e ep =
    elim (eq-zero-or-pos (w + p)) [
      | inl z ↦ ended_name s l w p (w + 1 + p) z
      | inr h ↦ ended_said s l w p (ws ++ 46 ∷ ps) (ws ++ ps) (found h) (w + 1 + p) split (omega (arith, inside, room, length-drop (w + 1) l))
    ]
  where
    ws : List ℕ
    ws = take w l

    ps : List ℕ
    ps = take p (drop (w + 1) l)

    inside : w < length l
    inside = present l w 46 e (omega arith)

    room : p ≤ length (drop (w + 1) l)
    room = subst (λ (n : ℕ). n ≤ length (drop (w + 1) l)) (sym ep) (run_most (drop (w + 1) l))

    ws_long : length ws ≡ w
    ws_long = length-take-le w l (omega (arith, inside))

    ps_long : length ps ≡ p
    ps_long = length-take-le p (drop (w + 1) l) room

    ws_digits : Digits ws
    ws_digits = subst (λ (n : ℕ). Digits (take n l)) (sym ew) (run_digits l)

    ps_digits : Digits ps
    ps_digits = subst (λ (n : ℕ). Digits (take n (drop (w + 1) l))) (sym ep) (run_digits (drop (w + 1) l))

    mantissa : 0 < w + p → Mantissa (ws ++ 46 ∷ ps) (ws ++ ps) (length ps)
    mantissa h =
        elim (eq-zero-or-pos w) [
          | inl z ↦ point_first ws ps ws_digits ps_digits (omega (arith, ps_long))
          | inr g ↦ point_last ws ps ws_digits (omega (arith, ws_long)) ps_digits
        ]

    found : 0 < w + p → Found l w p (ws ++ 46 ∷ ps) (ws ++ ps)
    found h = record { is = subst (Mantissa (ws ++ 46 ∷ ps) (ws ++ ps)) ps_long (mantissa h); digits = refl; count = omega (arith, length-append ws ps, ws_long, ps_long); some_digit = h }

    split : l ≡ (ws ++ 46 ∷ ps) ++ drop (w + 1 + p) l
    split =
        sym (take-append-drop w l)
        ∙ ap (λ (x : List ℕ). ws ++ x)
        (here l w inside ∙ (λ z. e z ∷ drop (w + 1) l) ∙ ap (λ (x : List ℕ). 46 ∷ x) (sym (take-append-drop p (drop (w + 1) l)) ∙ ap (λ (x : List ℕ). ps ++ x) (drop-drop p (w + 1) l)))
        ∙ sym (append_assoc ws (46 ∷ ps) (drop (w + 1 + p) l))

-- digits alone
plain_said : (s : Bool) (l : List ℕ) (w : ℕ) → w ≡ digit_run l → Said (Body s l) (ended s l w 0 w)
plain_said s l w ew =
    elim (eq-zero-or-pos w) [
      | inl z ↦ ended_name s l w 0 w (omega arith)
      | inr h ↦ ended_said s l w 0 ws ws (found h) w (sym (take-append-drop w l)) room
    ]
  where
    ws : List ℕ
    ws = take w l

    room : w ≤ length l
    room = subst (λ (n : ℕ). n ≤ length l) (sym ew) (run_most l)

    long : length ws ≡ w
    long = length-take-le w l room

    found : 0 < w → Found l w 0 ws ws
    found h =
        record {
          is = whole ws (subst (λ (n : ℕ). Digits (take n l)) (sym ew) (run_digits l)) (omega (arith, long));
          digits = append-nil ws;
          count = omega (arith, long);
          some_digit = omega arith;
        }

unsigned_said : (s : Bool) (l : List ℕ) → Said (Body s l) (unsigned s l)
unfolding unsigned
unsigned_said s l = go (eqb (get_or l (digit_run l) 0) 46) refl
  where
    go : (b : Bool) → eqb (get_or l (digit_run l) 0) 46 ≡ b → Said (Body s l) (cond b (ended s l (digit_run l) (digit_run (drop (digit_run l + 1) l)) (digit_run l + 1 + digit_run (drop (digit_run l + 1) l))) (ended s l (digit_run l) 0 (digit_run l)))
    go true e = pointed_said s l (digit_run l) (digit_run (drop (digit_run l + 1) l)) refl (eqb-true (get_or l (digit_run l) 0) 46 e) refl
    go false e = plain_said s l (digit_run l) refl

with_sign : {s t : List ℕ} {n : Bool} {v : Number} → Sign s n → Said (Body n t) v → Said (Written (s ++ t)) v
with_sign S nothing = nothing
with_sign S (this b) = this (written S b)

-- The scanner takes only texts of the grammar, each for what it comes to.
pub only_grammar : (l : List ℕ) → Said (Written l) (number l)
unfolding number
only_grammar [] = with_sign no_sign (unsigned_said false [])
only_grammar (c ∷ l) = go (eqb c 45) refl (eqb c 43) refl
  where
    go : (a : Bool) → eqb c 45 ≡ a → (b : Bool) → eqb c 43 ≡ b → Said (Written (c ∷ l)) (cond a (unsigned true l) (cond b (unsigned false l) (unsigned false (c ∷ l))))
    go true p b q = subst (λ (d : ℕ). Said (Written (d ∷ l)) (unsigned true l)) (sym (eqb-true c 45 p)) (with_sign minus (unsigned_said true l))
    go false p true q = subst (λ (d : ℕ). Said (Written (d ∷ l)) (unsigned false l)) (sym (eqb-true c 43 q)) (with_sign plus (unsigned_said false l))
    go false p false q = with_sign no_sign (unsigned_said false (c ∷ l))

-- ---- from the grammar to the scanner

-- a letter is no digit, point or sign
pub letter : (a q : ℕ) → lower a ≡ q → 97 ≤ q → 65 ≤ a
letter a q e h = go (leb 65 a) refl (leb a 90) e
  where
    go : (b : Bool) → leb 65 a ≡ b → (d : Bool) → cond (b && d) (a + 32) a ≡ q → 65 ≤ a
    go true r d f = leb-true 65 a r
    go false r d f = omega arith

pub letter_stops : {a : ℕ} (l : List ℕ) → 65 ≤ a → Stops (a ∷ l)
letter_stops {a = a} l h = at_other {c = a} (simp (le-leb 48 a (omega arith), lt-leb a 57 (omega arith)))

-- `e` or `E`
is_e : (a : ℕ) → lower a ≡ 101 → (a ≡ 101) ⊎ (a ≡ 69)
is_e a e = go (leb 65 a) refl (leb a 90) refl e
  where
    go : (b : Bool) → leb 65 a ≡ b → (d : Bool) → leb a 90 ≡ d → cond (b && d) (a + 32) a ≡ 101 → (a ≡ 101) ⊎ (a ≡ 69)
    go true r true t f = inr (omega arith)
    go true r false t f = inl f
    go false r d t f = inl f

exp_stops : {x : List ℕ} {en : Bool} {es : List ℕ} → Exp x en es → Stops x
exp_stops no_exp = at_end
exp_stops (exp e s n ds le S D h) = letter_stops (s ++ ds) (letter e 101 le (omega arith))

-- what l is from a place on
at_place : (m x : List ℕ) (i k : ℕ) → length m ≡ i → drop (i + k) (m ++ x) ≡ drop k x
at_place m x i k e = sym (drop-drop k i (m ++ x)) ∙ ap (drop k) (drop_at m x i e)

byte_at : (m x : List ℕ) (i k : ℕ) → length m ≡ i → get_or (m ++ x) (i + k) 0 ≡ get_or x k 0
byte_at m x i k e = ap (λ (j : ℕ). get_or (m ++ x) (j + k) 0) (sym e) ∙ get_or-append-add m x k 0

pub digit_range : (c : ℕ) → is_digit c ≡ true → (48 ≤ c) × (c ≤ 57)
digit_range c e = let t = and_true (leb 48 c) (leb c 57) e in (leb-true 48 c t.0, leb-true c 57 t.1)

-- digits begin with no sign
digits_first : {ds : List ℕ} → Digits ds → 0 < length ds → (48 ≤ get_or ds 0 0) × (get_or ds 0 0 ≤ 57)
digits_first no_digit h = absurd (omega arith)
digits_first (digit e d) h = digit_range _ e

module _ (s : Bool) (l : List ℕ) (w p : ℕ) (m ds : List ℕ) (f : Found l w p m ds) where
  exponent_at_takes : (en : Bool) (x : ℕ) (es : List ℕ) → drop x l ≡ es → Digits es → 0 < length es → x + length es ≡ length l → exponent_at s l w p en x ≡ limited s ds p en es
  unfolding exponent_at
  exponent_at_takes en x es e D h k =
      let n : digit_run (drop x l) ≡ length es = ap digit_run (e ∙ sym (append-nil es)) ∙ digits_run [] D at_end in
      let t : take (length es) (drop x l) ≡ es = ap (take (length es)) e ∙ take_all (length es) es (omega arith) in
      (λ i. cond (eqb (n i) 0) (Err NotANumber) (cond (eqb (x + n i) (length l)) (sized s l w p en x (n i)) (Err NotANumber)))
      ∙ simp (ne_eqb (length es) 0 (λ (z : length es ≡ 0). omega arith), eq-eqb (x + length es) (length l) k)
      (sized_limited s l w p en x (length es) ds es f.digits f.count t refl)

  exponent_takes : (i e : ℕ) {sg : List ℕ} {en : Bool} (es : List ℕ) → length m ≡ i → Sign sg en → l ≡ m ++ (e ∷ (sg ++ es)) → Digits es → 0 < length es → exponent s l w p i ≡ limited s ds p en es
  unfolding exponent
  exponent_takes i e es M no_sign L D h =
      let c : get_or l (i + 1) 0 ≡ get_or es 0 0 = ap (λ (x : List ℕ). get_or x (i + 1) 0) L ∙ byte_at m (e ∷ es) i 1 M in
      let b = digits_first D h in
      let k = ap length L ∙ length-append m (e ∷ es) in
      simp (ne_eqb (get_or l (i + 1) 0) 45 (λ (z : get_or l (i + 1) 0 ≡ 45). omega arith), ne_eqb (get_or l (i + 1) 0) 43 (λ (z : get_or l (i + 1) 0 ≡ 43). omega arith))
      (exponent_at_takes false (i + 1) es (ap (drop (i + 1)) L ∙ at_place m (e ∷ es) i 1 M) D h (omega arith))
  exponent_takes i e es M plus L D h =
      let c : get_or l (i + 1) 0 ≡ 43 = ap (λ (x : List ℕ). get_or x (i + 1) 0) L ∙ byte_at m (e ∷ 43 ∷ es) i 1 M in
      let k = ap length L ∙ length-append m (e ∷ 43 ∷ es) in
      simp (ne_eqb (get_or l (i + 1) 0) 45 (λ (z : get_or l (i + 1) 0 ≡ 45). omega arith), eq-eqb (get_or l (i + 1) 0) 43 c)
      (exponent_at_takes false (i + 2) es (ap (drop (i + 2)) L ∙ at_place m (e ∷ 43 ∷ es) i 2 M) D h (omega arith))
  exponent_takes i e es M minus L D h =
      let c : get_or l (i + 1) 0 ≡ 45 = ap (λ (x : List ℕ). get_or x (i + 1) 0) L ∙ byte_at m (e ∷ 45 ∷ es) i 1 M in
      let k = ap length L ∙ length-append m (e ∷ 45 ∷ es) in
      simp (eq-eqb (get_or l (i + 1) 0) 45 c)
      (exponent_at_takes true (i + 2) es (ap (drop (i + 2)) L ∙ at_place m (e ∷ 45 ∷ es) i 2 M) D h (omega arith))

  ended_takes : (i : ℕ) {x : List ℕ} {en : Bool} {es : List ℕ} → length m ≡ i → Exp x en es → l ≡ m ++ x → ended s l w p i ≡ limited s ds p en es
  unfolding ended
  ended_takes i M no_exp L =
      let k = ap length L ∙ length-append m [] in
      simp (ne_eqb (w + p) 0 (λ (z : w + p ≡ 0). let h = f.some_digit in omega arith), eq-eqb i (length l) (omega arith))
      (sized_limited s l w p false i 0 ds [] f.digits f.count refl refl)
  ended_takes i M (exp e sg en es le S D h) L =
      let k = ap length L ∙ length-append m (e ∷ (sg ++ es)) in
      let c : get_or l (i + 0) 0 ≡ e = ap (λ (x : List ℕ). get_or x (i + 0) 0) L ∙ byte_at m (e ∷ (sg ++ es)) i 0 M in
      let a : get_or l i 0 ≡ e = ap (λ (j : ℕ). get_or l j 0) (sym (add-zero i)) ∙ c in
      simp (ne_eqb (w + p) 0 (λ (z : w + p ≡ 0). let h = f.some_digit in omega arith), ne_eqb i (length l) (λ (z : i ≡ length l). omega arith))
      (go (eqb (get_or l i 0) 101) refl (is_e e le) a (exponent_takes i e es M S L D h))
    where
      go : (b : Bool) → eqb (get_or l i 0) 101 ≡ b → (e ≡ 101) ⊎ (e ≡ 69) → get_or l i 0 ≡ e → exponent s l w p i ≡ limited s ds p en es
          → cond b (exponent s l w p i) (cond (eqb (get_or l i 0) 69) (exponent s l w p i) (Err NotANumber)) ≡ limited s ds p en es
      go true r o a t = t
      go false r (inl o) a t = absurd (eqb-false (get_or l i 0) 101 r (a ∙ o))
      go false r (inr o) a t = simp (eq-eqb (get_or l i 0) 69 (a ∙ o)) t

-- ---- the mantissa's places

pointed_takes : (s : Bool) (ws ps : List ℕ) {x : List ℕ} {en : Bool} {es : List ℕ} → Digits ws → Digits ps → Exp x en es → Mantissa (ws ++ 46 ∷ ps) (ws ++ ps) (length ps) → 0 < length ws + length ps
    → unsigned s ((ws ++ 46 ∷ ps) ++ x) ≡ limited s (ws ++ ps) (length ps) en es
unfolding unsigned
pointed_takes s ws ps {x = x} {en = en} {es = es} W P X M h =
    (λ i. cond (eqb (get_or l (rw₁ i) 0) 46) (ended s l (rw₁ i) (digit_run (drop (rw₁ i + 1) l)) (rw₁ i + 1 + digit_run (drop (rw₁ i + 1) l))) (ended s l (rw₁ i) 0 (rw₁ i)))
    ∙ simp (eq-eqb (get_or l (length ws) 0) 46 point)
    (ap (λ (p : ℕ). ended s l (length ws) p (length ws + 1 + p)) run_ps ∙ ended_takes s l (length ws) (length ps) (ws ++ 46 ∷ ps) (ws ++ ps) found (length ws + 1 + length ps) (omega (arith, length-append ws (46 ∷ ps))) X refl)
  where
    l : List ℕ
    l = (ws ++ 46 ∷ ps) ++ x

    same : l ≡ ws ++ (46 ∷ (ps ++ x))
    same = append_assoc ws (46 ∷ ps) x

    rw₁ : digit_run l ≡ length ws
    rw₁ = ap digit_run same ∙ digits_run (46 ∷ (ps ++ x)) W (at_other refl)

    point : get_or l (length ws) 0 ≡ 46
    point = ap (λ (y : List ℕ). get_or y (length ws) 0) same ∙ get_or_at ws 46 (ps ++ x) 0 (length ws) refl

    behind : drop (length ws + 1) l ≡ ps ++ x
    behind = ap (drop (length ws + 1)) same ∙ at_place ws (46 ∷ (ps ++ x)) (length ws) 1 refl

    run_ps : digit_run (drop (length ws + 1) l) ≡ length ps
    run_ps = ap digit_run behind ∙ digits_run x P (exp_stops X)

    found : Found l (length ws) (length ps) (ws ++ 46 ∷ ps) (ws ++ ps)
    found =
        record {
          is = M;
          digits = (λ i. take (length ws) (same i) ++ take (length ps) (behind i)) ∙ (λ i. take_at ws (46 ∷ (ps ++ x)) (length ws) refl i ++ take_at ps x (length ps) refl i);
          count = sym (length-append ws ps);
          some_digit = h;
        }

plain_takes : (s : Bool) (ws : List ℕ) {x : List ℕ} {en : Bool} {es : List ℕ} → Digits ws → Exp x en es → 0 < length ws → unsigned s (ws ++ x) ≡ limited s ws 0 en es
unfolding unsigned
plain_takes s ws {x = x} {en = en} {es = es} W X h =
    (λ i. cond (eqb (get_or (ws ++ x) (rw₁ i) 0) 46) (ended s (ws ++ x) (rw₁ i) (digit_run (drop (rw₁ i + 1) (ws ++ x))) (rw₁ i + 1 + digit_run (drop (rw₁ i + 1) (ws ++ x)))) (ended s (ws ++ x) (rw₁ i) 0 (rw₁ i)))
    ∙ simp (ne_eqb (get_or (ws ++ x) (length ws) 0) 46 no_point)
    (ended_takes s (ws ++ x) (length ws) 0 ws ws found (length ws) refl X refl)
  where
    rw₁ : digit_run (ws ++ x) ≡ length ws
    rw₁ = digits_run x W (exp_stops X)

    other : {x : List ℕ} {en : Bool} {es : List ℕ} → Exp x en es → get_or x 0 0 ≡ 46 → ⊥
    other no_exp e = omega arith
    other (exp e sg en es le S D h) z = let k = letter e 101 le (omega arith) in omega arith

    no_point : get_or (ws ++ x) (length ws) 0 ≡ 46 → ⊥
    no_point z = other X (sym (ap (λ (j : ℕ). get_or (ws ++ x) j 0) (sym (add-zero (length ws))) ∙ byte_at ws x (length ws) 0 refl) ∙ z)

    found : Found (ws ++ x) (length ws) 0 ws ws
    found =
        record {
          is = whole ws W h;
          digits = append-nil (take (length ws) (ws ++ x)) ∙ take_at ws x (length ws) refl;
          count = add-zero (length ws);
          some_digit = omega arith;
        }

-- ---- words

same_long : (l w : List ℕ) → spells l w ≡ true → length l ≡ length w
unfolding spells
same_long [] [] e = refl
same_long [] (b ∷ w) e = let z : ◌≡◌ {A = ℕ} 0 1 = cc in absurd (omega arith)
same_long (a ∷ l) [] e = let z : ◌≡◌ {A = ℕ} 0 1 = cc in absurd (omega arith)
same_long (a ∷ l) (b ∷ w) e = ap suc (same_long l w (go (eqb (lower a) b) e))
  where
    go : (x : Bool) → (x && spells l w) ≡ true → spells l w ≡ true
    go true e = e
    go false e = let z : ◌≡◌ {A = ℕ} 0 1 = cc in absurd (omega arith)

first_same : (a : ℕ) (l : List ℕ) (b : ℕ) (w : List ℕ) → spells (a ∷ l) (b ∷ w) ≡ true → lower a ≡ b
unfolding spells
first_same a l b w e = go (eqb (lower a) b) refl e
  where
    go : (x : Bool) → eqb (lower a) b ≡ x → (x && spells l w) ≡ true → lower a ≡ b
    go true q e = eqb-true (lower a) b q
    go false q e = let z : ◌≡◌ {A = ℕ} 0 1 = cc in absurd (omega arith)

-- a word that begins with a letter goes to `name`
word_takes : (s : Bool) (a : ℕ) (l : List ℕ) → 65 ≤ a → unsigned s (a ∷ l) ≡ name s (a ∷ l)
unfolding unsigned ended digit_run
word_takes s a l h = simp (le-leb 48 a (omega arith), lt-leb a 57 (omega arith), ne_eqb a 46 (λ (z : a ≡ 46). omega arith))

other_first : (a : ℕ) (l w : List ℕ) → lower a ≡ 110 → spells (a ∷ l) (105 ∷ w) ≡ false
unfolding spells
other_first a l w e = simp (ne_eqb (lower a) 105 (λ (z : lower a ≡ 105). omega arith))

body_takes : {n : Bool} {t : List ℕ} {v : Number} → Body n t v → unsigned n t ≡ v
unfolding name
body_takes (is_inf [] e) = absurd (let z = same_long [] (bytes "inf") e in omega arith)
body_takes {n = n} (is_inf (a ∷ l) e) = word_takes n a l (letter a 105 (first_same a l 105 (bytes "nf") e) (omega arith)) ∙ simp e
body_takes (is_infinity [] e) = absurd (let z = same_long [] (bytes "infinity") e in omega arith)
body_takes {n = n} (is_infinity (a ∷ l) e) =
    let z = same_long (a ∷ l) (bytes "infinity") e in
    word_takes n a l (letter a 105 (first_same a l 105 (bytes "nfinity") e) (omega arith))
    ∙ simp (spells_length (a ∷ l) (bytes "inf") (λ (y : length (a ∷ l) ≡ 3). omega arith), e)
body_takes (is_nan_lem [] e) = absurd (let z = same_long [] (bytes "nan") e in omega arith)
body_takes {n = n} (is_nan_lem (a ∷ l) e) =
    let z = same_long (a ∷ l) (bytes "nan") e in
    let f = first_same a l 110 (bytes "an") e in
    word_takes n a l (letter a 110 f (omega arith))
    ∙ simp (other_first a l (bytes "nf") f, spells_length (a ∷ l) (bytes "infinity") (λ (y : length (a ∷ l) ≡ 8). omega arith), e)
body_takes {n = n} (is_number (whole ws W h) X) = plain_takes n ws W X h
body_takes {n = n} (is_number (point_last ws ps W h P) X) = pointed_takes n ws ps W P X (point_last ws ps W h P) (omega arith)
body_takes {n = n} (is_number (point_first ws ps W P h) X) = pointed_takes n ws ps W P X (point_first ws ps W P h) (omega arith)

digits_begin : (x ws : List ℕ) → Digits ws → 0 < length ws → 46 ≤ get_or (ws ++ x) 0 0
digits_begin x [] W h = absurd (omega arith)
digits_begin x (c ∷ ws) (digit e d) h = let k = digit_range c e in omega arith

point_begins : (x ws ps : List ℕ) → Digits ws → 46 ≤ get_or ((ws ++ 46 ∷ ps) ++ x) 0 0
point_begins x [] ps W = omega arith
point_begins x (c ∷ ws) ps (digit e d) = let k = digit_range c e in omega arith

-- no body begins with a sign
body_first : {n : Bool} {t : List ℕ} {v : Number} → Body n t v → 46 ≤ get_or t 0 0
body_first (is_inf [] e) = absurd (let z = same_long [] (bytes "inf") e in omega arith)
body_first (is_inf (a ∷ l) e) = let k = letter a 105 (first_same a l 105 (bytes "nf") e) (omega arith) in omega arith
body_first (is_infinity [] e) = absurd (let z = same_long [] (bytes "infinity") e in omega arith)
body_first (is_infinity (a ∷ l) e) = let k = letter a 105 (first_same a l 105 (bytes "nfinity") e) (omega arith) in omega arith
body_first (is_nan_lem [] e) = absurd (let z = same_long [] (bytes "nan") e in omega arith)
body_first (is_nan_lem (a ∷ l) e) = let k = letter a 110 (first_same a l 110 (bytes "an") e) (omega arith) in omega arith
body_first (is_number {x = x} (whole ws W h) X) = digits_begin x ws W h
body_first (is_number {x = x} (point_last ws ps W h P) X) = point_begins x ws ps W
body_first (is_number {x = x} (point_first ws ps W P h) X) = point_begins x ws ps W

no_sign_takes : (t : List ℕ) → 46 ≤ get_or t 0 0 → number t ≡ unsigned false t
unfolding number
no_sign_takes t h = simp (ne_eqb (get_or t 0 0) 45 (λ (z : get_or t 0 0 ≡ 45). omega arith), ne_eqb (get_or t 0 0) 43 (λ (z : get_or t 0 0 ≡ 43). omega arith))

-- The scanner takes every text of the grammar for what it comes to.
pub all_grammar : {l : List ℕ} {v : Number} → Written l v → number l ≡ v
unfolding number
all_grammar (written {t = t} no_sign b) = no_sign_takes t (body_first b) ∙ body_takes b
all_grammar (written plus b) = body_takes b
all_grammar (written minus b) = body_takes b

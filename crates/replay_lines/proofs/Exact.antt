-- With the original's text, the one before document 02 [3], just one text agrees: the one that is written now. Assumes nothing.
use mathlib.Core.Path.{◌≡◌, refl, sym, ap, ◌∙◌, subst}
use mathlib.Core.Logic.{inl}
use mathlib.Core.Bool.{Bool, true, false, true≢false, ◌&&◌, ◌||◌, cond}
use mathlib.Core.List.{List, [], ◌∷◌, ◌++◌, append_assoc, append-nil}
use Prim.Native.Nat.{ℕ, ◌+◌, ◌-◌, ◌≤◌, ◌<◌}
use native.Mathlib.Nat.{lt_of_le_of_lt}
use native.Mathlib.Omega.{arith}
use lib.Dec.{T, eqb, leb, lit<, lit≤}
use lib.ListN.{length, get_or, take, drop, length-take, length-drop, length-append, take-append-drop}
use lib.Seq.{take_all, take_at, drop_at, drop-drop, drop-cons}
use lib.Ieee.{Float}
use borrow.Author.Tests.{eq-eqb, eqb-true, leb-true, le-leb}
use Rattle.laws.proofs.Tests.{and_true, true_behind}
use Rattle.text.specs.Text.{bytes}
use Rattle.decimal.specs.Fixed.{nearest_units, fixed_text}
use Rattle.decimal.proofs.Theorems.{decimal_le}
use Rattle.answer_lines.specs.Lines.{begins_with}
use Rattle.tle.specs.Elements.{whole_turn, within_turn, line_epoch}
use Rattle.tle.specs.Lines.{body2, checksum_of, closed, line1, line2, catalog_of}
use Rattle.tle.specs.Printed.{columns_of, read_digits}
use Rattle.tle.specs.Answer.{orbit_fits}
use Rattle.tle.proofs.Ranges.{UpTo}
use Rattle.tle.proofs.Values.{value_text}
use Rattle.tle.proofs.Turn.{Turned, zeroed, same, turned}
use Rattle.tle.proofs.AsBefore as before
use Rattle.tle.proofs.AsBefore.{line2_before, catalog_before, angle_text}
use Rattle.tle.proofs.Accepted.{sound, angle_up}
use Rattle.solution.specs.declared.SolvedOrbit.{SolvedOrbit}
use Rattle.replay_lines.specs.Agreement.{same_columns, is_turn, same_angle, same_angles, own_sum, same_sum, same_rest, line2_agrees, text_agrees}

-- ---- bytes that begin with others
begins_head : (c d : ℕ) (a b : List ℕ) (t : Bool) → eqb d c ≡ t → (begins_with a b ≡ true → take (length a) b ≡ a) → cond t (begins_with a b) false ≡ true → take (length (c ∷ a)) (d ∷ b) ≡ c ∷ a
begins_head c d a b true q f h = let e = eqb-true d c q in rw e (ap (λ (l : List ℕ). c ∷ l) (f h))
begins_head c d a b false q f h = absurd (true≢false (sym h))

begins_take : (a b : List ℕ) → begins_with a b ≡ true → take (length a) b ≡ a
unfolding begins_with
begins_take [] b h = refl
begins_take (c ∷ a) [] h = absurd (true≢false (sym h))
begins_take (c ∷ a) (d ∷ b) h = begins_head c d a b (eqb d c) refl (begins_take a b) h

begins_same : (a b : List ℕ) → length b ≡ length a → begins_with a b ≡ true → b ≡ a
begins_same a b e h = sym (take_all (length a) b (omega arith)) ∙ begins_take a b h

begins_append : (a b : List ℕ) → begins_with a (a ++ b) ≡ true
unfolding begins_with
begins_append [] b = refl
begins_append (c ∷ a) b = simp (eq-eqb c c refl) (begins_append a b)

begins_self : (a : List ℕ) → begins_with a a ≡ true
begins_self a = subst (λ (l : List ℕ). begins_with a l ≡ true) (append-nil a) (begins_append a [])

-- ---- a line of 69 columns and its line feed, by its columns
cut : (k n : ℕ) (v : List ℕ) → take n (drop k v) ++ drop (k + n) v ≡ drop k v
cut k n v = ap (λ (l : List ℕ). take n (drop k v) ++ l) (sym (drop-drop n k v)) ∙ take-append-drop n (drop k v)

abbrev pieces : List ℕ → List ℕ → List ℕ
pieces v q = columns_of 1 17 v ++ (columns_of 18 25 v ++ (columns_of 26 43 v ++ (columns_of 44 51 v ++ (columns_of 52 68 v ++ q))))

pieces_are : (v : List ℕ) → pieces v (columns_of 69 69 v ++ drop 69 v) ≡ v
pieces_are v =
    ap (pieces v) (cut 68 1 v)
    ∙ ap (λ (l : List ℕ). columns_of 1 17 v ++ (columns_of 18 25 v ++ (columns_of 26 43 v ++ (columns_of 44 51 v ++ l)))) (cut 51 17 v)
    ∙ ap (λ (l : List ℕ). columns_of 1 17 v ++ (columns_of 18 25 v ++ (columns_of 26 43 v ++ l))) (cut 43 8 v)
    ∙ ap (λ (l : List ℕ). columns_of 1 17 v ++ (columns_of 18 25 v ++ l)) (cut 25 18 v)
    ∙ ap (λ (l : List ℕ). columns_of 1 17 v ++ l) (cut 17 8 v)
    ∙ cut 0 17 v

column_count : (a b : ℕ) (s v : List ℕ) → length v ≡ length s → length (columns_of a b v) ≡ length (columns_of a b s)
column_count a b s v e = simp (length-take, length-drop, e)

same_columns_lem : (a b : ℕ) (s v : List ℕ) → length v ≡ length s → same_columns a b s v ≡ true → columns_of a b v ≡ columns_of a b s
unfolding same_columns
same_columns_lem a b s v e h = begins_same _ _ (column_count a b s v e) h

columns_same : (a b : ℕ) (s v : List ℕ) → columns_of a b s ≡ columns_of a b v → same_columns a b s v ≡ true
unfolding same_columns
columns_same a b s v e = rw e (begins_self (columns_of a b v))

-- ---- an angle: t is written where the original printed v
angle_agrees : Float → List ℕ → Bool
angle_agrees v t = cond (begins_with (bytes "360.0000") (angle_text v)) (begins_with (bytes "  0.0000") t) (begins_with (angle_text v) t)

angle_length : (v : Float) → length (angle_text v) ≡ 8
unfolding fixed_text
angle_length v = refl

turn_units : read_digits 0 (bytes "360.0000") ≡ whole_turn
unfolding read_digits
turn_units = refl

-- what does not round to a turn is not printed 360.0000
no_turn : (v : Float) → UpTo 360 v → (nearest_units 4 v ≡ whole_turn → ⊥) → begins_with (bytes "360.0000") (angle_text v) ≡ false
no_turn v u h = by_test (begins_with (bytes "360.0000") (angle_text v)) refl
  where
    by_test : (b : Bool) → begins_with (bytes "360.0000") (angle_text v) ≡ b → b ≡ false
    by_test false e = refl
    by_test true e =
        absurd (h (sym (value_text 32 4 (nearest_units 4 v) 7 (inl refl) (lit≤ tt) (lt_of_le_of_lt (decimal_le 4 360 v u.size) (lit< tt))) ∙ ap (read_digits 0) (begins_same (bytes "360.0000") (angle_text v) (angle_length v) e) ∙ turn_units))

turn_begins : (v : Float) → nearest_units 4 v ≡ whole_turn → begins_with (bytes "360.0000") (angle_text v) ≡ true
turn_begins v h = ap (begins_with (bytes "360.0000")) (before.zeroed v h).0 ∙ begins_self (bytes "360.0000")

angle_exact : (v : Float) (t : List ℕ) → UpTo 360 v → length t ≡ 8 → angle_agrees v t ≡ true → t ≡ angle_text (within_turn v)
unfolding angle_agrees
angle_exact v t u l h = by_case (turned v)
  where
    by_case : Turned v → t ≡ angle_text (within_turn v)
    by_case (zeroed q e) = begins_same (bytes "  0.0000") t l (simp (turn_begins v q) at h) ∙ sym (before.zeroed v q).1
    by_case (same q e) = begins_same (angle_text v) t (l ∙ sym (angle_length v)) (simp (no_turn v u q) at h) ∙ ap angle_text (sym e)

angle_agrees_lem : (v : Float) → UpTo 360 v → angle_agrees v (angle_text (within_turn v)) ≡ true
unfolding angle_agrees
angle_agrees_lem v u = by_case (turned v)
  where
    by_case : Turned v → angle_agrees v (angle_text (within_turn v)) ≡ true
    by_case (zeroed q e) = simp (turn_begins v q, (before.zeroed v q).1) (begins_self (bytes "  0.0000"))
    by_case (same q e) = simp (no_turn v u q, e) (begins_self (angle_text v))

-- ---- line 2 with its line feed, of any four numbers
module _ (i r u n : Float) where
  abbrev row : List ℕ
  row = closed (body2 i r u n) ++ 10 ∷ []

  row_length : length row ≡ 70
  unfolding closed body2 fixed_text
  row_length = refl

  row_node : columns_of 18 25 row ≡ angle_text r
  unfolding closed body2 fixed_text
  row_node = refl

  row_anomaly : columns_of 44 51 row ≡ angle_text u
  unfolding closed body2 fixed_text
  row_anomaly = refl

  -- its other columns are those of any other node and mean anomaly
  row_others : (r' u' : Float) → let l = closed (body2 i r' u' n) ++ 10 ∷ [] in
      (columns_of 1 17 row ≡ columns_of 1 17 l) × (columns_of 26 43 row ≡ columns_of 26 43 l) × (columns_of 52 68 row ≡ columns_of 52 68 l) × (columns_of 70 70 row ≡ columns_of 70 70 l)
  unfolding closed body2 fixed_text
  row_others r' u' = (refl, refl, refl, refl)

  row_body : (q : List ℕ) → take 68 (pieces row q) ≡ body2 i r u n
  unfolding closed body2 fixed_text
  row_body q = refl

  row_sum : columns_of 69 69 row ≡ (checksum_of (body2 i r u n) + 48) ∷ []
  unfolding closed body2 fixed_text
  row_sum = refl

  row_own : own_sum row ≡ true
  unfolding own_sum closed body2 fixed_text
  row_own = eq-eqb (checksum_of (body2 i r u n) + 48) (checksum_of (body2 i r u n) + 48) refl

-- ---- what agreement says, part by part
parts : (s v : List ℕ) → line2_agrees s v ≡ true → (same_rest s v ≡ true) × (same_angle 18 25 s v ≡ true) × (same_angle 44 51 s v ≡ true) × (own_sum v ≡ true)
unfolding line2_agrees same_angles same_sum
parts s v h =
    let a = and_true (same_rest s v) (same_angles s v && same_sum s v) h in
    let b = and_true (same_angles s v) (same_sum s v) a.1 in
    let c = and_true (same_angle 18 25 s v) (same_angle 44 51 s v) b.0 in
    let d = and_true (own_sum v) (is_turn 18 25 s || (is_turn 44 51 s || same_columns 69 69 s v)) b.1 in
    (a.0, c.0, c.1, d.0)

parts_rest : (s v : List ℕ) → same_rest s v ≡ true → (same_columns 1 17 s v ≡ true) × (same_columns 26 43 s v ≡ true) × (same_columns 52 68 s v ≡ true) × (same_columns 70 70 s v ≡ true)
unfolding same_rest
parts_rest s v h =
    let a = and_true (same_columns 1 17 s v) (same_columns 26 43 s v && (same_columns 52 68 s v && same_columns 70 70 s v)) h in
    let b = and_true (same_columns 26 43 s v) (same_columns 52 68 s v && same_columns 70 70 s v) a.1 in
    let c = and_true (same_columns 52 68 s v) (same_columns 70 70 s v) b.1 in
    (a.0, b.0, c.0, c.1)

own_column : (v : List ℕ) → 68 < length v → own_sum v ≡ true → columns_of 69 69 v ≡ (checksum_of (take 68 v) + 48) ∷ []
unfolding own_sum
own_column v l h = ap (take 1) (drop-cons v 68 0 l) ∙ ap (λ (c : ℕ). c ∷ []) (eqb-true (get_or v 68 0) (checksum_of (take 68 v) + 48) h)

last_one : (v : List ℕ) → length v ≡ 70 → drop 69 v ≡ columns_of 70 70 v
last_one v l = sym (take_all 1 (drop 69 v) (omega (arith, length-drop 69 v, l)))

five : (v w q : List ℕ) → columns_of 1 17 v ≡ columns_of 1 17 w → columns_of 18 25 v ≡ columns_of 18 25 w → columns_of 26 43 v ≡ columns_of 26 43 w
    → columns_of 44 51 v ≡ columns_of 44 51 w → columns_of 52 68 v ≡ columns_of 52 68 w → pieces v q ≡ pieces w q
five v w q a b c d e = rw (a, b, c, d, e)

-- ---- of the original's line 2 of these numbers, v is written
module _ (i r u n : Float) (hr : UpTo 360 r) (hu : UpTo 360 u) where
  abbrev old : List ℕ
  old = closed (body2 i r u n) ++ 10 ∷ []

  abbrev new : List ℕ
  new = closed (body2 i (within_turn r) (within_turn u) n) ++ 10 ∷ []

  node_agreement : (v : List ℕ) → same_angle 18 25 old v ≡ angle_agrees r (columns_of 18 25 v)
  unfolding same_angle is_turn same_columns angle_agrees
  node_agreement v = simp (row_node i r u n)

  anomaly_agreement : (v : List ℕ) → same_angle 44 51 old v ≡ angle_agrees u (columns_of 44 51 v)
  unfolding same_angle is_turn same_columns angle_agrees
  anomaly_agreement v = simp (row_anomaly i r u n)

  line_exact : (v : List ℕ) → length v ≡ 70 → line2_agrees old v ≡ true → v ≡ new
  line_exact v l h =
      let e = l ∙ sym (row_length i r u n) in
      let g = row_others i r u n (within_turn r) (within_turn u) in
      let p = parts old v h in
      let w = parts_rest old v p.0 in
      let c1 : columns_of 1 17 v ≡ columns_of 1 17 new = same_columns_lem 1 17 old v e w.0 ∙ g.0 in
      let n2 = column_count 18 25 old v e ∙ ap length (row_node i r u n) ∙ angle_length r in
      let c2 : columns_of 18 25 v ≡ columns_of 18 25 new =
      angle_exact r (columns_of 18 25 v) hr n2 (sym (node_agreement v) ∙ p.1) ∙ sym (row_node i (within_turn r) (within_turn u) n) in
      let c3 : columns_of 26 43 v ≡ columns_of 26 43 new = same_columns_lem 26 43 old v e w.1 ∙ g.1 in
      let n4 = column_count 44 51 old v e ∙ ap length (row_anomaly i r u n) ∙ angle_length u in
      let c4 : columns_of 44 51 v ≡ columns_of 44 51 new =
      angle_exact u (columns_of 44 51 v) hu n4 (sym (anomaly_agreement v) ∙ p.2) ∙ sym (row_anomaly i (within_turn r) (within_turn u) n) in
      let c5 : columns_of 52 68 v ≡ columns_of 52 68 new = same_columns_lem 52 68 old v e w.2 ∙ g.2 in
      let body : take 68 v ≡ body2 i (within_turn r) (within_turn u) n =
      ap (take 68) (sym (pieces_are v) ∙ five v new (columns_of 69 69 v ++ drop 69 v) c1 c2 c3 c4 c5) ∙ row_body i (within_turn r) (within_turn u) n (columns_of 69 69 v ++ drop 69 v) in
      let c6 : columns_of 69 69 v ≡ columns_of 69 69 new =
      own_column v (omega arith) p.3 ∙ ap (λ (b : List ℕ). (checksum_of b + 48) ∷ []) body ∙ sym (row_sum i (within_turn r) (within_turn u) n) in
      let c7 : drop 69 v ≡ drop 69 new =
      last_one v l ∙ same_columns_lem 70 70 old v e w.3 ∙ g.3 ∙ sym (last_one new (row_length i (within_turn r) (within_turn u) n)) in
      sym (pieces_are v) ∙ five v new (columns_of 69 69 v ++ drop 69 v) c1 c2 c3 c4 c5 ∙ rw (c6, c7) (pieces_are new)

  -- the new line does agree
  node_turned : nearest_units 4 r ≡ whole_turn → is_turn 18 25 old ≡ true
  unfolding is_turn
  node_turned h = rw (row_node i r u n) (turn_begins r h)

  anomaly_turned : nearest_units 4 u ≡ whole_turn → is_turn 44 51 old ≡ true
  unfolding is_turn
  anomaly_turned h = rw (row_anomaly i r u n) (turn_begins u h)

  sum_agrees : Turned r → Turned u → (is_turn 18 25 old || (is_turn 44 51 old || same_columns 69 69 old new)) ≡ true
  sum_agrees (zeroed h e) q = simp (node_turned h)
  sum_agrees (same h e) (zeroed k f) = simp (anomaly_turned k, true_behind)
  sum_agrees (same h e) (same k f) = simp (columns_same 69 69 old new (rw (e, f)), true_behind)

  line_agrees : line2_agrees old new ≡ true
  unfolding line2_agrees same_rest same_angles same_sum
  line_agrees =
      let g = row_others i r u n (within_turn r) (within_turn u) in
      simp (
        columns_same 1 17 old new g.0,
        columns_same 26 43 old new g.1,
        columns_same 52 68 old new g.2,
        columns_same 70 70 old new g.3,
        node_agreement new ∙ ap (angle_agrees r) (row_node i (within_turn r) (within_turn u) n) ∙ angle_agrees_lem r hr,
        anomaly_agreement new ∙ ap (angle_agrees u) (row_anomaly i (within_turn r) (within_turn u) n) ∙ angle_agrees_lem u hu,
        row_own i (within_turn r) (within_turn u) n,
        sum_agrees (turned r) (turned u),
      )

-- ---- whole texts: a head and the line behind it
text_exact : (head s n w : List ℕ) → length s ≡ 70 → ((v : List ℕ) → length v ≡ 70 → line2_agrees s v ≡ true → v ≡ n) → text_agrees (head ++ s) w ≡ true → w ≡ head ++ n
unfolding text_agrees
text_exact head s n w l f h =
    let at = length w - 70 in
    let a = and_true (eqb (length (head ++ s)) (length w)) (leb 70 (length w) && (begins_with (take at (head ++ s)) w && line2_agrees (drop at (head ++ s)) (drop at w))) h in
    let b = and_true (leb 70 (length w)) (begins_with (take at (head ++ s)) w && line2_agrees (drop at (head ++ s)) (drop at w)) a.1 in
    let c = and_true (begins_with (take at (head ++ s)) w) (line2_agrees (drop at (head ++ s)) (drop at w)) b.1 in
    let e : length (head ++ s) ≡ length w = eqb-true _ _ a.0 in
    let m = leb-true 70 (length w) b.0 in
    let k : length head ≡ length w - 70 = omega (arith, length-append head s, e, l) in
    let x : take at w ≡ head = ap (λ (j : ℕ). take j w) (sym k) ∙ begins_take head w (subst (λ (q : List ℕ). begins_with q w ≡ true) (take_at head s at k) c.0) in
    let y : drop at w ≡ n = f (drop at w) (omega (arith, length-drop at w, m)) (subst (λ (q : List ℕ). line2_agrees q (drop at w) ≡ true) (drop_at head s at k) c.1) in
    sym (take-append-drop at w) ∙ rw (x, y)

text_agrees_lem : (head s n : List ℕ) → length s ≡ 70 → length n ≡ 70 → line2_agrees s n ≡ true → text_agrees (head ++ s) (head ++ n) ≡ true
unfolding text_agrees
text_agrees_lem head s n l m h =
    let k : length head ≡ length (head ++ n) - 70 = omega (arith, length-append head n, m) in
    let e : length (head ++ s) ≡ length (head ++ n) = omega (arith, length-append head s, length-append head n, l, m) in
    let g : 70 ≤ length (head ++ n) = omega (arith, length-append head n, m) in
    simp (eq-eqb _ _ e, le-leb _ _ g, take_at head s _ k, drop_at head s _ k, drop_at head n _ k, begins_append head n, h)

-- ---- the theorems
abbrev head_of : List ℕ → SolvedOrbit → List ℕ
head_of name o = name ++ (10 ∷ (line1 (line_epoch o.epoch) ++ (10 ∷ [])))

before_is : (name : List ℕ) (o : SolvedOrbit) → catalog_before name o ≡ head_of name o ++ (line2_before o ++ 10 ∷ [])
unfolding catalog_before
before_is name o = simp append_assoc

now_is : (name : List ℕ) (o : SolvedOrbit) → catalog_of name o ≡ head_of name o ++ (line2 o ++ 10 ∷ [])
unfolding catalog_of
now_is name o = simp append_assoc

module _ (name : List ℕ) (o : SolvedOrbit) (f : T (orbit_fits o)) where
  -- a text that agrees with the original's is the one that is written
  pub agreement_exact : (w : List ℕ) → text_agrees (catalog_before name o) w ≡ true → w ≡ catalog_of name o
  unfolding line2 line2_before
  agreement_exact w h =
      let s = sound o f in
      text_exact (head_of name o) _ _ w (row_length _ _ _ _) (line_exact _ _ _ _ (angle_up o.raan0 s.raan0_fits) (angle_up o.u0 s.u0_fits)) (subst (λ (q : List ℕ). text_agrees q w ≡ true) (before_is name o) h)
      ∙ sym (now_is name o)

  -- and that one does agree
  pub agreement_now : text_agrees (catalog_before name o) (catalog_of name o) ≡ true
  unfolding line2 line2_before
  agreement_now =
      let s = sound o f in
      rw (before_is name o, now_is name o)
      (text_agrees_lem (head_of name o) _ _ (row_length _ _ _ _) (row_length _ _ _ _) (line_agrees _ _ _ _ (angle_up o.raan0 s.raan0_fits) (angle_up o.u0 s.u0_fits)))

-- `date_time_of` takes the texts of RFC 3339's grammar and no others, each for its moment. Assumes nothing.
use mathlib.Core.Path.{◌≡◌, refl, sym, ap, ◌∙◌, subst}
use mathlib.Core.Bool.{Bool, true, false, ◌&&◌, cond}
use mathlib.Core.List.{List, [], ◌∷◌, ◌++◌}
use Prim.Native.Nat.{ℕ, suc, ◌+◌, ◌-◌, ◌*◌, ◌^◌, ◌≤◌, ◌<◌}
use native.Mathlib.Nat.{add-zero, sub-zero, mul-one}
use native.Mathlib.Omega.{arith}
use Rattle.std.proofs.Common.{Option, Some, None}
use lib.Dec.{leb, ltb, eqb}
use lib.ListN.{length, get_or, take, drop, length-drop, length-append, take-append-drop}
use lib.Seq.{drop-cons, drop-drop, get_or-drop, take_all, take-take, take_at, drop_at, length-take-le}
use borrow.Author.Tests.{eq-eqb, ne_eqb, eqb-true, eqb-false, ltb-true, ltb-false, leb-true}
use Rattle.decimal.specs.Read.{digit_run, with_digits, lower}
use Rattle.decimal.specs.Grammar.{numeral_value}
use Rattle.decimal.proofs.Grammar.{run_most, run_digits, Stops, letter, letter_stops, at_other, digits_run, value_numeral}
use Rattle.decimal.proofs.Scan.{present}
use Rattle.rfc3339.specs.Rfc3339.{stamp, place_fits, matches, layout, hour_minute, two_digits, valid_date, valid_time, nanos, numoffset, time_offset, time_secfrac, seconds, date_time, date_time_of}
use Rattle.rfc3339.specs.Grammar.{pair, full_date, Secfrac, no_secfrac, secfrac, partial_time, Offset, zulu, ahead, behind, DateTime, date_and_time}
use Rattle.rfc3339.specs.declared.Timestamp.{Timestamp}

-- a text is no time, or what P says of it
pub data Said (P : Timestamp → Type 0) : Option Timestamp → Type 0 where
  nothing : Said P None
  this : {v : Timestamp} → P v → Said P (Some v)

abbrev two : ℕ → ℕ → ℕ
two a b = (a - 48) * 10 + (b - 48)

-- ---- patterns

data Fits : List ℕ → List ℕ → Type 0 where
  fits_end : {l : List ℕ} → Fits [] l
  fits_more : {p c : ℕ} {ps l : List ℕ} → place_fits p c ≡ true → Fits ps l → Fits (p ∷ ps) (c ∷ l)

matched : (ps l : List ℕ) → matches ps l ≡ true → Fits ps l
unfolding matches
matched [] l e = fits_end
matched (p ∷ ps) [] e = let z : ◌≡◌ {A = ℕ} 0 1 = cc in absurd (omega arith)
matched (p ∷ ps) (c ∷ l) e = go (place_fits p c) refl (matched ps l) e
  where
    go : (b : Bool) → place_fits p c ≡ b → (matches ps l ≡ true → Fits ps l) → (b && matches ps l) ≡ true → Fits (p ∷ ps) (c ∷ l)
    go true q ih f = fits_more q (ih f)
    go false q ih f = let z : ◌≡◌ {A = ℕ} 0 1 = cc in absurd (omega arith)

-- a separator is itself
separator : (q c : ℕ) → q < 97 → eqb (lower c) q ≡ true → c ≡ q
separator q c h e = go (leb 65 c) refl (leb c 90) (eqb-true (lower c) q e)
  where
    go : (b : Bool) → leb 65 c ≡ b → (d : Bool) → cond (b && d) (c + 32) c ≡ q → c ≡ q
    go true r true f = let k = leb-true 65 c r in absurd (omega arith)
    go true r false f = f
    go false r d f = f

-- ---- the offset, from the place where it stands

same_test : (a b c d : ℕ) → (a ≡ b → c ≡ d) → (c ≡ d → a ≡ b) → eqb a b ≡ eqb c d
same_test a b c d f g = go (eqb c d) refl
  where
    go : (x : Bool) → eqb c d ≡ x → eqb a b ≡ x
    go true e = eq-eqb a b (g (eqb-true c d e))
    go false e = ne_eqb a b (λ (h : a ≡ b). eqb-false c d e (f h))

module _ (l : List ℕ) (z : ℕ) (h : z ≤ length l) where
  at_shift : (k j : ℕ) → z + k ≡ j → get_or l j 0 ≡ get_or (drop z l) k 0
  at_shift k j e = ap (λ (i : ℕ). get_or l i 0) (sym e) ∙ sym (get_or-drop z l k 0)

  two_shift : (k j : ℕ) → z + k ≡ j → two_digits l j ≡ two_digits (drop z l) k
  two_shift k j e = let f : z + (k + 1) ≡ j + 1 = omega arith in (λ i. (at_shift k j e i - 48) * 10 + (at_shift (k + 1) (j + 1) f i - 48))

  long_shift : (k : ℕ) → eqb (length l) (z + k) ≡ eqb (length (drop z l)) k
  long_shift k = let d = length-drop z l in same_test (length l) (z + k) (length (drop z l)) k (λ (e : length l ≡ z + k). omega arith) (λ (e : length (drop z l) ≡ k). omega arith)

  numoffset_shift : (s n : ℕ) → numoffset l z s n ≡ numoffset (drop z l) 0 s n
  unfolding numoffset
  numoffset_shift s n =
      let a = two_shift 1 (z + 1) refl in
      let b = two_shift 4 (z + 4) refl in
      let c = at_shift 0 z (add-zero z) in
      (λ i. cond (matches hour_minute (sym (drop-drop 1 z l) i))
      (cond (valid_time (a i) (b i) 0)
      (cond (eqb (c i) 43) (Some (stamp (s - (a i * 3600 + b i * 60)) n)) (cond (eqb (c i) 45) (Some (stamp (s + (a i * 3600 + b i * 60)) n)) None)) None) None)

  offset_shift : (s n : ℕ) → time_offset l z s n ≡ time_offset (drop z l) 0 s n
  unfolding time_offset
  offset_shift s n =
      (λ i. cond (long_shift 1 i) (cond (eqb (lower (at_shift 0 z (add-zero z) i)) 122) (Some (stamp s n)) None) (cond (long_shift 6 i) (numoffset_shift s n i) None))

-- what an offset makes of local seconds s
data Utc (s n : ℕ) : List ℕ → Timestamp → Type 0 where
  utc : {o : List ℕ} {a b : ℕ} → Offset o a b → Utc s n o (stamp (s + b - a) n)

module _ (s n : ℕ) where
  straight : (o : List ℕ) → Offset o 0 0 → Utc s n o (stamp s n)
  straight o f = subst (λ (x : ℕ). Utc s n o (stamp x n)) (ap (λ (x : ℕ). x - 0) (add-zero s) ∙ sub-zero s) (utc f)

  east : (o : List ℕ) (a : ℕ) → Offset o a 0 → Utc s n o (stamp (s - a) n)
  east o a f = subst (λ (x : ℕ). Utc s n o (stamp x n)) (ap (λ (x : ℕ). x - a) (add-zero s)) (utc f)

  west : (o : List ℕ) (b : ℕ) → Offset o 0 b → Utc s n o (stamp (s + b) n)
  west o b f = subst (λ (x : ℕ). Utc s n o (stamp x n)) (sub-zero (s + b)) (utc f)

  -- a sign and hh:mm
  signed_said : (c : ℕ) {t : List ℕ} → Fits hour_minute t → length t ≡ 5
      → Said (Utc s n (c ∷ t)) (cond (valid_time (two_digits t 0) (two_digits t 3) 0) (cond (eqb c 43) (Some (stamp (s - (two_digits t 0 * 3600 + two_digits t 3 * 60)) n)) (cond (eqb c 45) (Some (stamp (s + (two_digits t 0 * 3600 + two_digits t 3 * 60)) n)) None)) None)
  unfolding place_fits
  signed_said c (fits_more fa (fits_more fb (fits_more fx (fits_more fd (fits_more fe (fits_end {l = y ∷ r})))))) h = absurd (omega arith)
  signed_said c (fits_more {c = a} fa (fits_more {c = b} fb (fits_more {c = x} fx (fits_more {c = d} fd (fits_more {c = e} fe (fits_end {l = []})))))) h =
      go (valid_time (two a b) (two d e) 0) refl (eqb c 43) refl (eqb c 45) refl
    where
      text : (q : ℕ) → c ≡ q → (q ∷ a ∷ b ∷ 58 ∷ d ∷ e ∷ []) ≡ (c ∷ a ∷ b ∷ x ∷ d ∷ e ∷ [])
      text q g = let f = separator 58 x (omega arith) fx in (λ i. sym g i ∷ a ∷ b ∷ sym f i ∷ d ∷ e ∷ [])

      go : (v : Bool) → valid_time (two a b) (two d e) 0 ≡ v → (p : Bool) → eqb c 43 ≡ p → (q : Bool) → eqb c 45 ≡ q
          → Said (Utc s n (c ∷ a ∷ b ∷ x ∷ d ∷ e ∷ []))
          (cond v (cond p (Some (stamp (s - (two a b * 3600 + two d e * 60)) n)) (cond q (Some (stamp (s + (two a b * 3600 + two d e * 60)) n)) None)) None)
      go false v p g q f = nothing
      go true v true g q f =
          this (subst (λ (o : List ℕ). Utc s n o (stamp (s - (two a b * 3600 + two d e * 60)) n)) (text 43 (eqb-true c 43 g)) (east _ _ (ahead (pair a b fa fb) (pair d e fd fe) v)))
      go true v false g true f =
          this (subst (λ (o : List ℕ). Utc s n o (stamp (s + (two a b * 3600 + two d e * 60)) n)) (text 45 (eqb-true c 45 f)) (west _ _ (behind (pair a b fa fb) (pair d e fd fe) v)))
      go true v false g false f = nothing

  numoffset_said : (c : ℕ) (t : List ℕ) → length t ≡ 5 → Said (Utc s n (c ∷ t)) (numoffset (c ∷ t) 0 s n)
  unfolding numoffset
  numoffset_said c t h = go (matches hour_minute t) refl
    where
      go : (m : Bool) → matches hour_minute t ≡ m
          → Said (Utc s n (c ∷ t)) (cond m (cond (valid_time (two_digits t 0) (two_digits t 3) 0) (cond (eqb c 43) (Some (stamp (s - (two_digits t 0 * 3600 + two_digits t 3 * 60)) n)) (cond (eqb c 45) (Some (stamp (s + (two_digits t 0 * 3600 + two_digits t 3 * 60)) n)) None)) None) None)
      go true e = signed_said c (matched hour_minute t e) h
      go false e = nothing

  offset_said : (o : List ℕ) → Said (Utc s n o) (time_offset o 0 s n)
  unfolding time_offset
  offset_said [] = nothing
  offset_said (c ∷ []) = go (eqb (lower c) 122) refl
    where
      go : (b : Bool) → eqb (lower c) 122 ≡ b → Said (Utc s n (c ∷ [])) (cond b (Some (stamp s n)) None)
      go true e = this (straight (c ∷ []) (zulu c (eqb-true (lower c) 122 e)))
      go false e = nothing
  offset_said (c ∷ d ∷ o) = rw (ne_eqb (suc (suc (length o))) 1 (λ (e : suc (suc (length o)) ≡ 1). omega arith)) (go (eqb (suc (suc (length o))) 6) refl)
    where
      go : (b : Bool) → eqb (suc (suc (length o))) 6 ≡ b → Said (Utc s n (c ∷ d ∷ o)) (cond b (numoffset (c ∷ d ∷ o) 0 s n) None)
      go true e = let z = eqb-true (suc (suc (length o))) 6 e in numoffset_said c (d ∷ o) (omega arith)
      go false e = nothing

  offset_takes : {o : List ℕ} {a b : ℕ} → Offset o a b → time_offset o 0 s n ≡ Some (stamp (s + b - a) n)
  unfolding time_offset numoffset matches place_fits
  offset_takes (zulu z e) = simp (eq-eqb (lower z) 122 e) (ap (λ (x : ℕ). Some (stamp x n)) (sym (ap (λ (x : ℕ). x - 0) (add-zero s) ∙ sub-zero s)))
  offset_takes (ahead (pair a b fa fb) (pair d e fd fe) v) = simp (fa, fb, fd, fe, v) (ap (λ (x : ℕ). Some (stamp (x - (two a b * 3600 + two d e * 60)) n)) (sym (add-zero s)))
  offset_takes (behind (pair a b fa fb) (pair d e fd fe) v) = simp (fa, fb, fd, fe, v) (ap (λ (x : ℕ). Some (stamp x n)) (sym (sub-zero (s + (two a b * 3600 + two d e * 60)))))

-- ---- the fraction

nanos_are : (l q ds : List ℕ) (n : ℕ) → drop 20 l ≡ q → take n q ≡ ds → length ds ≡ n → nanos l n ≡ numeral_value 0 (take 9 ds) * 10 ^ (9 - length ds)
unfolding nanos
nanos_are l q ds n e f g = go (ltb n 9) refl
  where
    go : (b : Bool) → ltb n 9 ≡ b → cond b (with_digits 0 n (drop 20 l) * 10 ^ (9 - n)) (with_digits 0 9 (drop 20 l)) ≡ numeral_value 0 (take 9 ds) * 10 ^ (9 - length ds)
    go true h =
        let k = ltb-true n 9 h in
        let t : take 9 ds ≡ ds = take_all 9 ds (omega arith) in
        (λ i. (value_numeral 0 n (drop 20 l) ∙ ap (λ (x : List ℕ). numeral_value 0 (take n x)) e ∙ ap (numeral_value 0) (f ∙ sym t)) i * 10 ^ (9 - sym g i))
    go false h =
        let k = ltb-false n 9 h in
        let t : take 9 ds ≡ take 9 q = ap (take 9) (sym f) ∙ take-take 9 n q k in
        let z : 9 - length ds ≡ 0 = omega arith in
        value_numeral 0 9 (drop 20 l) ∙ ap (λ (x : List ℕ). numeral_value 0 (take 9 x)) e ∙ ap (numeral_value 0) (sym t) ∙ sym (ap (λ (k : ℕ). numeral_value 0 (take 9 ds) * 10 ^ k) z ∙ mul-one (numeral_value 0 (take 9 ds)))

-- what stands behind the seconds
data Rest (s : ℕ) : List ℕ → Timestamp → Type 0 where
  rest : {f o : List ℕ} {n a b : ℕ} → Secfrac f n → Offset o a b → Rest s (f ++ o) (stamp (s + b - a) n)

with_frac : {s n : ℕ} {f o : List ℕ} {v : Option Timestamp} → Secfrac f n → Said (Utc s n o) v → Said (Rest s (f ++ o)) v
with_frac F nothing = nothing
with_frac F (this (utc o)) = this (rest F o)

module _ (l : List ℕ) (s : ℕ) (h : 19 ≤ length l) where
  secfrac_said : Said (Rest s (drop 19 l)) (time_secfrac l s)
  unfolding time_secfrac
  secfrac_said = go (eqb (get_or l 19 0) 46) refl (eqb (digit_run (drop 20 l)) 0) refl
    where
      q : List ℕ
      q = drop 20 l

      n : ℕ
      n = digit_run (drop 20 l)

      found : get_or l 19 0 ≡ 46 → 19 < length l
      found e = present l 19 46 e (omega arith)

      go : (b : Bool) → eqb (get_or l 19 0) 46 ≡ b → (d : Bool) → eqb (digit_run (drop 20 l)) 0 ≡ d
          → Said (Rest s (drop 19 l)) (cond b (cond d None (time_offset l (20 + digit_run (drop 20 l)) s (nanos l (digit_run (drop 20 l))))) (time_offset l 19 s 0))
      go false e d g = subst (Said (Rest s (drop 19 l))) (sym (offset_shift l 19 h s 0)) (with_frac no_secfrac (offset_said s 0 (drop 19 l)))
      go true e true g = nothing
      go true e false g =
          let c = eqb-true (get_or l 19 0) 46 e in
          let m = found c in
          let r = run_most q in
          let k = length-drop 20 l in
          let nz = eqb-false n 0 g in
          let ds = take n q in
          let long : length ds ≡ n = length-take-le n q r in
          let text : 46 ∷ (ds ++ drop (20 + n) l) ≡ drop 19 l =
          ap (λ (x : List ℕ). 46 ∷ (ds ++ x)) (sym (drop-drop n 20 l)) ∙ ap (λ (x : List ℕ). 46 ∷ x) (take-append-drop n q) ∙ (λ i. sym c i ∷ q) ∙ sym (drop-cons l 19 0 m) in
          let same : time_offset l (20 + n) s (nanos l n) ≡ time_offset (drop (20 + n) l) 0 s (numeral_value 0 (take 9 ds) * 10 ^ (9 - length ds)) =
          offset_shift l (20 + n) (omega arith) s (nanos l n) ∙ ap (time_offset (drop (20 + n) l) 0 s) (nanos_are l q ds n refl refl long) in
          subst (λ (x : List ℕ). Said (Rest s x) (time_offset l (20 + n) s (nanos l n))) text
          (subst (Said (Rest s (46 ∷ (ds ++ drop (20 + n) l)))) (sym same)
          (with_frac (secfrac ds (run_digits q) (omega arith)) (offset_said s (numeral_value 0 (take 9 ds) * 10 ^ (9 - length ds)) (drop (20 + n) l))))

-- an offset begins with no digit and no point
offset_first : {o : List ℕ} {a b : ℕ} → Offset o a b → Stops o
offset_first (zulu z e) = letter_stops [] (letter z 122 e (omega arith))
offset_first (ahead h m v) = at_other refl
offset_first (behind h m v) = at_other refl

offset_no_point : {o : List ℕ} {a b : ℕ} → Offset o a b → get_or o 0 0 ≡ 46 → ⊥
offset_no_point (zulu z e) k = let g = letter z 122 e (omega arith) in omega arith
offset_no_point (ahead h m v) k = omega arith
offset_no_point (behind h m v) k = omega arith

secfrac_takes : (l : List ℕ) (s : ℕ) {f o : List ℕ} {n a b : ℕ} → 19 ≤ length l → drop 19 l ≡ f ++ o → Secfrac f n → Offset o a b → time_secfrac l s ≡ Some (stamp (s + b - a) n)
unfolding time_secfrac
secfrac_takes l s {o = o} h e no_secfrac O =
    simp (ne_eqb (get_or l 19 0) 46 (λ (z : get_or l 19 0 ≡ 46). offset_no_point O (sym (at_shift l 19 h 0 19 refl ∙ ap (λ (x : List ℕ). get_or x 0 0) e) ∙ z)))
    (offset_shift l 19 h s 0 ∙ ap (λ (x : List ℕ). time_offset x 0 s 0) e ∙ offset_takes s 0 O)
secfrac_takes l s {o = o} h e (secfrac ds D k) O =
    let q : drop 20 l ≡ ds ++ o = sym (drop-drop 1 19 l) ∙ ap (drop 1) e in
    let n : digit_run (drop 20 l) ≡ length ds = ap digit_run q ∙ digits_run o D (offset_first O) in
    let m = ap length e in
    let j = length-drop 19 l in
    let i = length-append ds o in
    let t : take (length ds) (drop 20 l) ≡ ds = ap (take (length ds)) q ∙ take_at ds o (length ds) refl in
    let u : drop (20 + length ds) l ≡ o = sym (drop-drop (length ds) 20 l) ∙ ap (drop (length ds)) q ∙ drop_at ds o (length ds) refl in
    let c : get_or l 19 0 ≡ 46 = at_shift l 19 h 0 19 refl ∙ ap (λ (x : List ℕ). get_or x 0 0) e in
    (λ i. cond (eqb (c i) 46) (cond (eqb (n i) 0) None (time_offset l (20 + n i) s (nanos l (n i)))) (time_offset l 19 s 0))
    ∙ simp (ne_eqb (length ds) 0 (λ (z : length ds ≡ 0). omega arith))
    (offset_shift l (20 + length ds) (omega arith) s (nanos l (length ds))
    ∙ (λ z. time_offset (u z) 0 s (nanos_are l (drop 20 l) ds (length ds) refl t refl z))
    ∙ offset_takes s (numeral_value 0 (take 9 ds) * 10 ^ (9 - length ds)) O)

-- ---- the whole

date_said : {l : List ℕ} → Fits layout l
    → Said (DateTime l) (date_time l (two_digits l 0 * 100 + two_digits l 2) (two_digits l 5) (two_digits l 8) (two_digits l 11) (two_digits l 14) (two_digits l 17))
unfolding date_time place_fits
date_said (fits_more {c = y1} fy1 (fits_more {c = y2} fy2 (fits_more {c = y3} fy3 (fits_more {c = y4} fy4 (fits_more {c = x1} fx1 (fits_more {c = m1} fm1 (fits_more {c = m2} fm2 (fits_more {c = x2} fx2 (fits_more {c = d1} fd1 (fits_more {c = d2} fd2 (fits_more {c = t} ft (fits_more {c = h1} fh1 (fits_more {c = h2} fh2 (fits_more {c = x3} fx3 (fits_more {c = i1} fi1 (fits_more {c = i2} fi2 (fits_more {c = x4} fx4 (fits_more {c = s1} fs1 (fits_more {c = s2} fs2 (fits_end {l = r})))))))))))))))))))) =
    go (valid_date (two y1 y2 * 100 + two y3 y4) (two m1 m2) (two d1 d2)) refl (valid_time (two h1 h2) (two i1 i2) (two s1 s2)) refl
  where
    text : (r : List ℕ) → (y1 ∷ y2 ∷ y3 ∷ y4 ∷ 45 ∷ m1 ∷ m2 ∷ 45 ∷ d1 ∷ d2 ∷ t ∷ h1 ∷ h2 ∷ 58 ∷ i1 ∷ i2 ∷ 58 ∷ s1 ∷ s2 ∷ r) ≡ (y1 ∷ y2 ∷ y3 ∷ y4 ∷ x1 ∷ m1 ∷ m2 ∷ x2 ∷ d1 ∷ d2 ∷ t ∷ h1 ∷ h2 ∷ x3 ∷ i1 ∷ i2 ∷ x4 ∷ s1 ∷ s2 ∷ r)
    text r =
        let a = sym (separator 45 x1 (omega arith) fx1) in
        let b = sym (separator 45 x2 (omega arith) fx2) in
        let c = sym (separator 58 x3 (omega arith) fx3) in
        let d = sym (separator 58 x4 (omega arith) fx4) in
        (λ i. y1 ∷ y2 ∷ y3 ∷ y4 ∷ a i ∷ m1 ∷ m2 ∷ b i ∷ d1 ∷ d2 ∷ t ∷ h1 ∷ h2 ∷ c i ∷ i1 ∷ i2 ∷ d i ∷ s1 ∷ s2 ∷ r)

    made : {r : List ℕ} {v : Timestamp} → valid_date (two y1 y2 * 100 + two y3 y4) (two m1 m2) (two d1 d2) ≡ true → valid_time (two h1 h2) (two i1 i2) (two s1 s2) ≡ true → Rest (seconds (two y1 y2 * 100 + two y3 y4) (two m1 m2) (two d1 d2) (two h1 h2) (two i1 i2) (two s1 s2)) r v → DateTime (y1 ∷ y2 ∷ y3 ∷ y4 ∷ x1 ∷ m1 ∷ m2 ∷ x2 ∷ d1 ∷ d2 ∷ t ∷ h1 ∷ h2 ∷ x3 ∷ i1 ∷ i2 ∷ x4 ∷ s1 ∷ s2 ∷ r) v
    made p q (rest {f = f} {o = o} {n = n} {a = a} {b = b} F O) =
        subst (λ (x : List ℕ). DateTime x (stamp (seconds (two y1 y2 * 100 + two y3 y4) (two m1 m2) (two d1 d2) (two h1 h2) (two i1 i2) (two s1 s2) + b - a) n)) (text (f ++ o))
        (date_and_time t (full_date (pair y1 y2 fy1 fy2) (pair y3 y4 fy3 fy4) (pair m1 m2 fm1 fm2) (pair d1 d2 fd1 fd2) p) (eqb-true (lower t) 116 ft)
        (partial_time (pair h1 h2 fh1 fh2) (pair i1 i2 fi1 fi2) (pair s1 s2 fs1 fs2) q F) O)

    both : {v : Option Timestamp} → valid_date (two y1 y2 * 100 + two y3 y4) (two m1 m2) (two d1 d2) ≡ true → valid_time (two h1 h2) (two i1 i2) (two s1 s2) ≡ true → Said (Rest (seconds (two y1 y2 * 100 + two y3 y4) (two m1 m2) (two d1 d2) (two h1 h2) (two i1 i2) (two s1 s2)) r) v → Said (DateTime (y1 ∷ y2 ∷ y3 ∷ y4 ∷ x1 ∷ m1 ∷ m2 ∷ x2 ∷ d1 ∷ d2 ∷ t ∷ h1 ∷ h2 ∷ x3 ∷ i1 ∷ i2 ∷ x4 ∷ s1 ∷ s2 ∷ r)) v
    both p q nothing = nothing
    both p q (this b) = this (made p q b)

    go : (a : Bool) → valid_date (two y1 y2 * 100 + two y3 y4) (two m1 m2) (two d1 d2) ≡ a → (b : Bool) → valid_time (two h1 h2) (two i1 i2) (two s1 s2) ≡ b
        → Said (DateTime (y1 ∷ y2 ∷ y3 ∷ y4 ∷ x1 ∷ m1 ∷ m2 ∷ x2 ∷ d1 ∷ d2 ∷ t ∷ h1 ∷ h2 ∷ x3 ∷ i1 ∷ i2 ∷ x4 ∷ s1 ∷ s2 ∷ r)) (cond a (cond b (time_secfrac (y1 ∷ y2 ∷ y3 ∷ y4 ∷ x1 ∷ m1 ∷ m2 ∷ x2 ∷ d1 ∷ d2 ∷ t ∷ h1 ∷ h2 ∷ x3 ∷ i1 ∷ i2 ∷ x4 ∷ s1 ∷ s2 ∷ r) (seconds (two y1 y2 * 100 + two y3 y4) (two m1 m2) (two d1 d2) (two h1 h2) (two i1 i2) (two s1 s2))) None) None)
    go true p true q = both p q (secfrac_said (y1 ∷ y2 ∷ y3 ∷ y4 ∷ x1 ∷ m1 ∷ m2 ∷ x2 ∷ d1 ∷ d2 ∷ t ∷ h1 ∷ h2 ∷ x3 ∷ i1 ∷ i2 ∷ x4 ∷ s1 ∷ s2 ∷ r) (seconds (two y1 y2 * 100 + two y3 y4) (two m1 m2) (two d1 d2) (two h1 h2) (two i1 i2) (two s1 s2)) (omega arith))
    go true p false q = nothing
    go false p b q = nothing

-- The scanner takes only texts of the grammar, each for its moment.
pub only_grammar : (l : List ℕ) → Said (DateTime l) (date_time_of l)
unfolding date_time_of
only_grammar l = go (matches layout l) refl
  where
    go : (b : Bool) → matches layout l ≡ b
        → Said (DateTime l) (cond b (date_time l (two_digits l 0 * 100 + two_digits l 2) (two_digits l 5) (two_digits l 8) (two_digits l 11) (two_digits l 14) (two_digits l 17)) None)
    go true e = date_said (matched layout l e)
    go false e = nothing

-- The scanner takes every text of the grammar for its moment.
pub all_grammar : {l : List ℕ} {v : Timestamp} → DateTime l v → date_time_of l ≡ Some v
unfolding date_time_of date_time matches place_fits
all_grammar (date_and_time {o = o} t (full_date (pair y1 y2 fy1 fy2) (pair y3 y4 fy3 fy4) (pair m1 m2 fm1 fm2) (pair d1 d2 fd1 fd2) p) e (partial_time {f = f} (pair h1 h2 fh1 fh2) (pair i1 i2 fi1 fi2) (pair s1 s2 fs1 fs2) q F) O) =
    simp (fy1, fy2, fy3, fy4, fm1, fm2, fd1, fd2, eq-eqb (lower t) 116 e, fh1, fh2, fi1, fi2, fs1, fs2, p, q)
    (secfrac_takes (y1 ∷ y2 ∷ y3 ∷ y4 ∷ 45 ∷ m1 ∷ m2 ∷ 45 ∷ d1 ∷ d2 ∷ t ∷ h1 ∷ h2 ∷ 58 ∷ i1 ∷ i2 ∷ 58 ∷ s1 ∷ s2 ∷ (f ++ o)) (seconds (two y1 y2 * 100 + two y3 y4) (two m1 m2) (two d1 d2) (two h1 h2) (two i1 i2) (two s1 s2)) (omega arith) refl F O)

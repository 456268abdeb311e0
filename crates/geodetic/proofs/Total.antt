-- The reader takes the lines of specs/Lines.antt, each for its place, and no others. Assumes nothing.
use mathlib.Core.Path.{◌≡◌, refl, sym, ap, ◌∙◌, subst}
use mathlib.Core.Bool.{Bool, true, false, true≢false, not, ◌&&◌, cond}
use mathlib.Core.List.{List, [], ◌∷◌, ◌++◌, map, append-nil, append_assoc}
use Prim.Native.Nat.{ℕ, suc, ◌+◌, ◌≤◌}
use native.Mathlib.Omega.{arith}
use lib.Dec.{leb, ltb, eqb}
use lib.ListN.{length, get_or, take, drop, take-append-drop}
use lib.Ieee.{Float, is_nan}
use borrow.Author.Tests.{ne_eqb, eqb-true, le-leb, lt-leb, leb-true, le-ltb, ltb-false, not-false}
use Rattle.laws.proofs.Tests.{and_true, or_false}
use Rattle.text.specs.Text.{bytes, code}
use Rattle.std.proofs.Common.{Option, None, Some, Ok, Err}
use Rattle.frame.specs.declared.Vec3.{Vec3}
use Rattle.decimal.specs.Read.{Number, lower, spells, number}
use Rattle.decimal.specs.Grammar.{Digits, no_digit, digit, Sign, no_sign, plus, minus, Mantissa, whole, point_last, point_first, Exp, no_exp, exp, Body, is_inf, is_infinity, is_nan_lem, is_number, Written, written}
use Rattle.decimal.specs.declared.read.NumberError.TheVariants.{NotANumber, TooLong}
use Rattle.decimal.proofs.Grammar.{Said, nothing, this, all_grammar, only_grammar, letter}
use Rattle.passes.specs.Text.{blank, blanks, keep_trimmed, trim_end, trim, until, ascii}
use Rattle.refusal.specs.declared.Refusal.{Refusal}
use Rattle.refusal.specs.declared.Refusal.TheVariants.{NonAscii, LongLine}
use Rattle.refusal.specs.Refusals.{Check, first_of, ◌when◌, answer}
use Rattle.refusal.proofs.Lists.{accepted, clear}
use Rattle.geodetic.specs.Ellipsoid.{outside, off_limits, earth_fixed, wgs84_to_ecef_of}
use Rattle.geodetic.specs.Line.{line_size, onto_first, fields_of, field_numbers, field_value, checks, position_said, from_numbers, line_refusal, read_position_of}
use Rattle.geodetic.specs.Lines.{AllBlank, no_blank, blank_first, PositionLine, Says, ReaderTotal}
use Rattle.geodetic.proofs.Fields.{fields_one}

-- ---- the bytes of a line

-- every byte has P
data Each (P : ℕ → Type 0) : List ℕ → Type 0 where
  none : Each P []
  more : {c : ℕ} {l : List ℕ} → P c → Each P l → Each P (c ∷ l)

each_append : {P : ℕ → Type 0} {a b : List ℕ} → Each P a → Each P b → Each P (a ++ b)
each_append none y = y
each_append (more p x) y = more p (each_append x y)

each_map : {P Q : ℕ → Type 0} {l : List ℕ} → ((c : ℕ) → P c → Q c) → Each P l → Each Q l
each_map f none = none
each_map f (more {c = c} p x) = more (f c p) (each_map f x)

-- a byte that refusal 1 lets through
record Ascii (c : ℕ) : Type 0 where
  pub high : c ≤ 127

-- a byte that is no blank
record Visible (c : ℕ) : Type 0 where
  pub low : 33 ≤ c
  pub high : c ≤ 127

-- no blank and no comma, as every byte of a number is
record Plain (c : ℕ) : Type 0 where
  pub low : 33 ≤ c
  pub high : c ≤ 127
  pub no_comma : c ≡ 44 → ⊥

visible_ascii : (c : ℕ) → Visible c → Ascii c
visible_ascii c v = record { high = v.high }

plain_visible : (c : ℕ) → Plain c → Visible c
plain_visible c p = record { low = p.low; high = p.high }

plain_from : {c : ℕ} → 45 ≤ c → c ≤ 127 → Plain c
plain_from {c = c} h g = record { low = omega arith; high = g; no_comma = λ (e : c ≡ 44). omega arith }

visible_kept : (c : ℕ) → Visible c → blank c ≡ false
unfolding blank
visible_kept c v = simp (ne_eqb c 32 (λ (e : c ≡ 32). omega arith), le-ltb c 9 (omega arith), lt-leb c 13 (omega arith))

blank_low : (c : ℕ) → blank c ≡ true → c ≤ 32
unfolding blank
blank_low c e = go (eqb c 32) refl (ltb c 9) (leb c 13) refl e
  where
    go : (a : Bool) → eqb c 32 ≡ a → (b : Bool) (d : Bool) → leb c 13 ≡ d → cond a true (cond b false d) ≡ true → c ≤ 32
    go true p b d q h = omega (arith, eqb-true c 32 p)
    go false p true d q h = absurd (true≢false (sym h))
    go false p false true q h = omega (arith, leb-true c 13 q)
    go false p false false q h = absurd (true≢false (sym h))

blank_ascii : {l : List ℕ} → AllBlank l → Each Ascii l
blank_ascii no_blank = none
blank_ascii (blank_first {c = c} e x) = more {c = c} (record { high = omega (arith, blank_low c e) }) (blank_ascii x)

each_ascii : {l : List ℕ} → Each Ascii l → ascii l ≡ true
unfolding ascii
each_ascii none = refl
each_ascii (more {c = c} p x) = simp (le-leb c 127 p.high) (each_ascii x)

-- ---- the bytes of a number

digits_plain : {l : List ℕ} → Digits l → Each Plain l
digits_plain no_digit = none
digits_plain (digit {c = c} e d) = let t = and_true (leb 48 c) (leb c 57) e in more {c = c} (plain_from (omega (arith, leb-true 48 c t.0)) (omega (arith, leb-true c 57 t.1))) (digits_plain d)

sign_plain : {l : List ℕ} {n : Bool} → Sign l n → Each Plain l
sign_plain no_sign = none
sign_plain plus = more {c = 43} (record { low = omega arith; high = omega arith; no_comma = λ (e : ◌≡◌ {A = ℕ} 43 44). omega arith }) none
sign_plain minus = more {c = 45} (plain_from (omega arith) (omega arith)) none

pointed_plain : {ws ps : List ℕ} → Digits ws → Digits ps → Each Plain (ws ++ 46 ∷ ps)
pointed_plain W P = each_append (digits_plain W) (more {c = 46} (plain_from (omega arith) (omega arith)) (digits_plain P))

mantissa_plain : {m ds : List ℕ} {p : ℕ} → Mantissa m ds p → Each Plain m
mantissa_plain (whole ws W h) = digits_plain W
mantissa_plain (point_last ws ps W h P) = pointed_plain W P
mantissa_plain (point_first ws ps W P h) = pointed_plain W P

-- a letter in either case
letter_plain : (a q : ℕ) → lower a ≡ q → 97 ≤ q → q ≤ 122 → Plain a
letter_plain a q e h g = plain_from (omega (arith, letter a q e h)) (go (leb 65 a && leb a 90) e)
  where
    go : (b : Bool) → cond b (a + 32) a ≡ q → a ≤ 127
    go true f = omega arith
    go false f = omega arith

exp_plain : {x es : List ℕ} {en : Bool} → Exp x en es → Each Plain x
exp_plain no_exp = none
exp_plain (exp e s n ds le S D h) = more (letter_plain e 101 le (omega arith) (omega arith)) (each_append (sign_plain S) (digits_plain D))

-- every byte is a small letter
abbrev letters : List ℕ → Bool
letters [] = true
letters (b ∷ w) = (leb 97 b && leb b 122) && letters w

spelled_plain : (l w : List ℕ) → letters w ≡ true → spells l w ≡ true → Each Plain l
unfolding spells
spelled_plain [] w h e = none
spelled_plain (a ∷ l) [] h e = absurd (true≢false (sym e))
spelled_plain (a ∷ l) (b ∷ w) h e =
    let s = and_true (eqb (lower a) b) (spells l w) e in
    let t = and_true (leb 97 b && leb b 122) (letters w) h in
    let r = and_true (leb 97 b) (leb b 122) t.0 in
    more (letter_plain a b (eqb-true (lower a) b s.0) (leb-true 97 b r.0) (leb-true b 122 r.1)) (spelled_plain l w t.1 s.1)

body_plain : {n : Bool} {l : List ℕ} {v : Number} → Body n l v → Each Plain l
body_plain (is_inf w e) = spelled_plain w (bytes "inf") refl e
body_plain (is_infinity w e) = spelled_plain w (bytes "infinity") refl e
body_plain (is_nan_lem w e) = spelled_plain w (bytes "nan") refl e
body_plain (is_number m x) = each_append (mantissa_plain m) (exp_plain x)

written_plain : {l : List ℕ} {v : Number} → Written l v → Each Plain l
written_plain (written s b) = each_append (sign_plain s) (body_plain b)

-- so no number has a comma, one that refusal 3 refuses included
plain_until : {l : List ℕ} → Each Plain l → until (code ",") l ≡ length l
unfolding until
plain_until none = refl
plain_until (more {c = c} p x) = simp (ne_eqb c 44 p.no_comma, plain_until x)

said_plain : {l : List ℕ} {n : Number} → Said (Written l) n → (n ≡ Err NotANumber → ⊥) → Each Plain l
said_plain nothing h = absurd (h refl)
said_plain (this w) h = written_plain w

pub number_no_comma : (l : List ℕ) → (number l ≡ Err NotANumber → ⊥) → until (code ",") l ≡ length l
number_no_comma l h = plain_until (said_plain (only_grammar l) h)

-- ---- fields

fields_comma : {l : List ℕ} → Each Plain l → (r : List ℕ) → fields_of (l ++ 44 ∷ r) ≡ l ∷ fields_of r
unfolding fields_of onto_first
fields_comma none r = refl
fields_comma (more {c = c} p x) r = simp (ne_eqb c 44 p.no_comma, fields_comma x r)

-- fields with a comma before each
abbrev joined : List (List ℕ) → List ℕ
joined [] = []
joined (f ∷ fs) = 44 ∷ (f ++ joined fs)

fields_joined : (l : List ℕ) → joined (fields_of l) ≡ 44 ∷ l
unfolding fields_of onto_first
fields_joined [] = refl
fields_joined (c ∷ l) = go (eqb c 44) refl (fields_of l) (fields_joined l)
  where
    go : (b : Bool) → eqb c 44 ≡ b → (fs : List (List ℕ)) → joined fs ≡ 44 ∷ l → joined (cond b ([] ∷ fs) (onto_first c fs)) ≡ 44 ∷ (c ∷ l)
    go true p fs e = let z = eqb-true c 44 p in cc
    go false p [] e = let z : ◌≡◌ {A = ℕ} 0 1 = cc in absurd (omega arith)
    go false p (f ∷ fs) e = let z : f ++ joined fs ≡ l = cc in ap (λ (x : List ℕ). 44 ∷ (c ∷ x)) z

three_joined : (l a b c : List ℕ) → fields_of l ≡ a ∷ b ∷ c ∷ [] → l ≡ a ++ 44 ∷ (b ++ 44 ∷ c)
three_joined l a b c e =
    let k : 44 ∷ (a ++ 44 ∷ (b ++ 44 ∷ (c ++ []))) ≡ 44 ∷ l = ap joined (sym e) ∙ fields_joined l in
    let z : a ++ 44 ∷ (b ++ 44 ∷ (c ++ [])) ≡ l = cc in
    sym z ∙ ap (λ (x : List ℕ). a ++ 44 ∷ (b ++ 44 ∷ x)) (append-nil c)

-- ---- blanks at the ends

end_blank : {l : List ℕ} → AllBlank l → trim_end l ≡ []
unfolding trim_end keep_trimmed
end_blank no_blank = refl
end_blank (blank_first e x) = simp (end_blank x, e)

end_visible : {l r : List ℕ} → Each Visible l → AllBlank r → trim_end (l ++ r) ≡ l
unfolding trim_end keep_trimmed
end_visible none R = end_blank R
end_visible {r = r} (more {c = c} {l = l} p x) R = ap (keep_trimmed c) (end_visible x R) ∙ go l
  where
    go : (l : List ℕ) → keep_trimmed c l ≡ c ∷ l
    go [] = simp (visible_kept c p)
    go (b ∷ l) = refl

start_blank : {b : List ℕ} → AllBlank b → (t : List ℕ) → drop (blanks (b ++ t)) (b ++ t) ≡ drop (blanks t) t
unfolding blanks
start_blank no_blank t = refl
start_blank (blank_first e x) t = simp e (start_blank x t)

trim_visible : {b t r : List ℕ} → AllBlank b → Each Visible t → AllBlank r → trim (b ++ (t ++ r)) ≡ t
unfolding trim trim_end blanks
trim_visible {t = t} {r = r} B T R = ap trim_end (start_blank B (t ++ r)) ∙ go T
  where
    go : {t : List ℕ} → Each Visible t → trim_end (drop (blanks (t ++ r)) (t ++ r)) ≡ t
    go none = ap trim_end (subst (λ (x : List ℕ). drop (blanks x) x ≡ []) (append-nil r) (start_blank R []))
    go (more {c = c} p x) = simp (visible_kept c p) (end_visible (more p x) R)

-- l is t with blanks behind it
record Ends (l t : List ℕ) : Type 0 where
  pub after : List ℕ
  pub is : l ≡ t ++ after
  pub blank_after : AllBlank after

end_cut : (l : List ℕ) → Ends l (trim_end l)
unfolding trim_end keep_trimmed
end_cut [] = record { after = []; is = refl; blank_after = no_blank }
end_cut (c ∷ l) = go (trim_end l) (end_cut l)
  where
    alone : (b : Bool) → blank c ≡ b → Ends l [] → Ends (c ∷ l) (cond b [] (c ∷ []))
    alone true e x = record { after = c ∷ l; is = refl; blank_after = blank_first e (subst AllBlank (sym x.is) x.blank_after) }
    alone false e x = record { after = l; is = refl; blank_after = subst AllBlank (sym x.is) x.blank_after }

    go : (t : List ℕ) → Ends l t → Ends (c ∷ l) (keep_trimmed c t)
    go [] x = alone (blank c) refl x
    go (b ∷ t) x = record { after = x.after; is = ap (λ (y : List ℕ). c ∷ y) x.is; blank_after = x.blank_after }

start_cut : (l : List ℕ) → AllBlank (take (blanks l) l)
unfolding blanks
start_cut [] = no_blank
start_cut (c ∷ l) = go (blank c) refl (start_cut l)
  where
    go : (b : Bool) → blank c ≡ b → AllBlank (take (blanks l) l) → AllBlank (take (cond b (suc (blanks l)) 0) (c ∷ l))
    go true e x = blank_first e x
    go false e x = no_blank

-- ---- from a position line to the reader

-- the line as its definition writes it, and as ends and middle
flat : (p a b c r : List ℕ) → p ++ a ++ bytes "," ++ b ++ bytes "," ++ c ++ r ≡ p ++ ((a ++ 44 ∷ (b ++ 44 ∷ c)) ++ r)
flat p a b c r = simp append_assoc

text_visible : {a b c : List ℕ} → Each Plain a → Each Plain b → Each Plain c → Each Visible (a ++ 44 ∷ (b ++ 44 ∷ c))
text_visible A B C =
    let comma : Visible 44 = record { low = omega arith; high = omega arith } in
    each_append (each_map plain_visible A) (more comma (each_append (each_map plain_visible B) (more comma (each_map plain_visible C))))

text_fields : {a b c : List ℕ} → Each Plain a → Each Plain b → Each Plain c → fields_of (a ++ 44 ∷ (b ++ 44 ∷ c)) ≡ a ∷ b ∷ c ∷ []
text_fields {a = a} {b = b} {c = c} A B C = fields_comma A (b ++ 44 ∷ c) ∙ ap (λ (x : List (List ℕ)). a ∷ x) (fields_comma B c ∙ ap (λ (x : List (List ℕ)). b ∷ x) (fields_one _ (plain_until C)))

-- the bytes' own checks passed, the numbers decide
clear_line : (l : List ℕ) → ascii l ≡ true → line_size l ≤ 256 → read_position_of l ≡ from_numbers (field_numbers l)
unfolding read_position_of line_refusal from_numbers
clear_line l a s = simp (a, le-ltb 256 (line_size l) s)

three_values : (lat lon alt : Float) → off_limits lat lon alt ≡ false → from_numbers (Ok lat ∷ Ok lon ∷ Ok alt ∷ []) ≡ wgs84_to_ecef_of lat lon alt
unfolding from_numbers wgs84_to_ecef_of
three_values lat lon alt e = simp e

inside_located : (lat lon alt : Float) → off_limits lat lon alt ≡ false → wgs84_to_ecef_of lat lon alt ≡ Ok (earth_fixed lat lon alt)
unfolding wgs84_to_ecef_of
inside_located lat lon alt e = simp e

-- A position line is read as the call on its three numbers.
pub reader_total_called : {l : List ℕ} {lat lon alt : Float} → PositionLine l lat lon alt → read_position_of l ≡ wgs84_to_ecef_of lat lon alt
reader_total_called {l = l} {lat = lat} {lon = lon} {alt = alt} line =
    let A = written_plain line.latitude_is in
    let B = written_plain line.longitude_is in
    let C = written_plain line.height_is in
    let seen = text_visible A B C in
    let text = line.latitude ++ 44 ∷ (line.longitude ++ 44 ∷ line.height) in
    let is : l ≡ line.before ++ (text ++ line.after) = line.is ∙ flat line.before line.latitude line.longitude line.height line.after in
    let clean : ascii l ≡ true = ap ascii is ∙ each_ascii (each_append (blank_ascii line.blank_before) (each_append (each_map visible_ascii seen) (blank_ascii line.blank_after))) in
    let trimmed : trim l ≡ text = ap trim is ∙ trim_visible line.blank_before seen line.blank_after in
    let numbers : field_numbers l ≡ Ok lat ∷ Ok lon ∷ Ok alt ∷ [] =
    ap (λ (x : List ℕ). map number (fields_of x)) trimmed ∙ ap (map number) (text_fields A B C)
    ∙ (λ i. all_grammar line.latitude_is i ∷ all_grammar line.longitude_is i ∷ all_grammar line.height_is i ∷ []) in
    clear_line l clean line.size ∙ ap from_numbers numbers ∙ three_values lat lon alt line.inside

-- So it is accepted.
pub reader_total_accepts : {l : List ℕ} {lat lon alt : Float} → PositionLine l lat lon alt → read_position_of l ≡ Ok (earth_fixed lat lon alt)
reader_total_accepts {lat = lat} {lon = lon} {alt = alt} line = reader_total_called line ∙ inside_located lat lon alt line.inside

-- ---- from the reader to a position line

-- without a refusal: at most 256 bytes, and three numbers inside 13's limits
record Unrefused (l : List ℕ) (ns : List Number) : Type 0 where
  pub size : line_size l ≤ 256
  pub three : length ns ≡ 3
  pub inside : off_limits (field_value (get_or ns 0 (Err NotANumber))) (field_value (get_or ns 1 (Err NotANumber))) (field_value (get_or ns 2 (Err NotANumber))) ≡ false

unrefused : (l : List ℕ) → line_refusal l ≡ None → Unrefused l (field_numbers l)
unfolding line_refusal
unrefused l e =
    let ns = field_numbers l in
    let c = clear ((NonAscii when not (ascii l)) ∷ (LongLine when ltb 256 (line_size l)) ∷ checks ns) e in
    let d = or_false (not (eqb (length ns) 3)) _ c.1.1.1.0 in
    record { size = ltb-false 256 (line_size l) c.1.0; three = eqb-true (length ns) 3 (not-false (eqb (length ns) 3) d.0); inside = d.1 }

-- three fields and no more
record Three (fs : List (List ℕ)) : Type 0 where
  pub lat : List ℕ
  pub lon : List ℕ
  pub alt : List ℕ
  pub is : fs ≡ lat ∷ lon ∷ alt ∷ []

three : (fs : List (List ℕ)) → length (map number fs) ≡ 3 → Three fs
three [] e = absurd (omega arith)
three (a ∷ []) e = absurd (omega arith)
three (a ∷ b ∷ []) e = absurd (omega arith)
three (a ∷ b ∷ c ∷ []) e = record { lat = a; lon = b; alt = c; is = refl }
three (a ∷ b ∷ c ∷ d ∷ fs) e = absurd (omega arith)

-- a field inside limits is a number of the grammar, and has a value
valued : {f : List ℕ} {n : Number} (lo hi : Float) → Said (Written f) n → outside lo hi (field_value n) ≡ false → Written f (Ok (field_value n))
unfolding outside is_nan
valued lo hi nothing e = absurd (true≢false e)
valued lo hi (this {v = Err NotANumber} w) e = absurd (true≢false e)
valued lo hi (this {v = Ok v} w) e = w
valued lo hi (this {v = Err TooLong} w) e = absurd (true≢false e)

-- three fields that are numbers of the grammar, each with a value
record Values (a b c : List ℕ) : Type 0 where
  pub latitude_is : Written a (Ok (field_value (number a)))
  pub longitude_is : Written b (Ok (field_value (number b)))
  pub height_is : Written c (Ok (field_value (number c)))

values : (a b c : List ℕ) → off_limits (field_value (number a)) (field_value (number b)) (field_value (number c)) ≡ false → Values a b c
unfolding off_limits
values a b c e =
    let p = or_false (outside _ _ (field_value (number a))) _ e in
    let q = or_false (outside _ _ (field_value (number b))) _ p.1 in
    record {
      latitude_is = valued _ _ (only_grammar a) p.0;
      longitude_is = valued _ _ (only_grammar b) q.0;
      height_is = valued _ _ (only_grammar c) q.1;
    }

-- behind its first blanks, l is what trimming leaves and more blanks
split : (l t : List ℕ) → trim l ≡ t → Ends (drop (blanks l) l) t
unfolding trim
split l t e = subst (Ends (drop (blanks l) l)) e (end_cut (drop (blanks l) l))

-- A line that is accepted is a position line.
pub reader_total_only : (l : List ℕ) (p : Vec3) → read_position_of l ≡ Ok p → Says l p
unfolding read_position_of
reader_total_only l p e =
    let ns = field_numbers l in
    let ok = accepted (line_refusal l) (position_said ns) p (sym e) in
    let u = unrefused l ok.0 in
    let f = three (fields_of (trim l)) u.three in
    let inside = subst (λ (fs : List (List ℕ)). off_limits (field_value (get_or (map number fs) 0 (Err NotANumber))) (field_value (get_or (map number fs) 1 (Err NotANumber))) (field_value (get_or (map number fs) 2 (Err NotANumber))) ≡ false) f.is u.inside in
    let v = values f.lat f.lon f.alt inside in
    let s = split l (f.lat ++ 44 ∷ (f.lon ++ 44 ∷ f.alt)) (three_joined (trim l) f.lat f.lon f.alt f.is) in
    record {
      lat = field_value (number f.lat);
      lon = field_value (number f.lon);
      alt = field_value (number f.alt);
      line =
          record {
            before = take (blanks l) l;
            latitude = f.lat;
            longitude = f.lon;
            height = f.alt;
            after = s.after;
            is = sym (take-append-drop (blanks l) l) ∙ ap (λ (x : List ℕ). take (blanks l) l ++ x) s.is ∙ sym (flat (take (blanks l) l) f.lat f.lon f.alt s.after);
            blank_before = start_cut l;
            latitude_is = v.latitude_is;
            longitude_is = v.longitude_is;
            height_is = v.height_is;
            blank_after = s.blank_after;
            size = u.size;
            inside = inside;
          };
      is = inside_located _ _ _ inside ∙ ap Ok (sym (ap (λ (fs : List (List ℕ)). position_said (map number fs)) f.is) ∙ ok.1);
    }

-- A line is accepted exactly where it is a position line.
pub reader_total : (l : List ℕ) → ReaderTotal l
reader_total l = record { accepts = λ lat lon alt line. reader_total_accepts line; as_called = λ lat lon alt line. reader_total_called line; only = reader_total_only l }

-- The name part of an accepted answer is the trimmed value of the file's last good satellite_name line. Assumes nothing.
use mathlib.Core.Path.{◌≡◌, refl, sym, ap, ◌∙◌, subst}
use mathlib.Core.Bool.{Bool, true, false, not, ◌&&◌, cond}
use mathlib.Core.List.{List, [], ◌∷◌}
use mathlib.Core.Option.{Option, none, some}
use Prim.Native.Nat.{ℕ, zero, suc, ◌+◌, ◌-◌, ◌≤◌}
use native.Mathlib.Nat.{sub-zero, zero-add}
use native.Mathlib.Omega.{arith}
use Rattle.std.proofs.Common.{Result, Ok, Err, Some, None}
use Rattle.std.proofs.Common.{Option as Answer}
use lib.Dec.{ltb, eqb}
use lib.IntN.{ℤ}
use lib.Ieee.{Float}
use lib.ListN.{length, take, drop, length-drop}
use lib.Seq.{take-nil, take-take, drop-drop, length-take-le, take_all}
use borrow.Author.Tests.{ne_eqb, eqb-false, le-ltb}
use Rattle.text.specs.Text.{bytes}
use Rattle.decimal.specs.Read.{Number, spells, number}
use Rattle.decimal.specs.declared.read.NumberError.TheVariants.{NotANumber, TooLong}
use Rattle.rfc3339.specs.Rfc3339.{date_time_of}
use Rattle.rfc3339.specs.declared.Timestamp.{Timestamp}
use Rattle.passes.specs.Text.{Placed, push, starts_lf, lines, blank, blanks, keep_trimmed, trim_end, trim, until, ascii}
use Rattle.passes.specs.Line.{part, inside, since1970, sample_of, pair_of, fields, sample, center_line, named, header, trimmed_line, line_of}
use Rattle.passes.specs.File.{opening, advance, advanced, after, scanned, room_refusal, with_room, answer, name_at, Reads}
use Rattle.passes.specs.Called.{value_of, headed, called_in, later, last_called, part_of}
use Rattle.passes.specs.declared.line.Line.{Line}
use Rattle.passes.specs.declared.line.Line.TheVariants.{Skipped, Name, Center, Sample}
use Rattle.refusal.specs.declared.Refusal.{Refusal}
use Rattle.refusal.specs.declared.Refusal.TheVariants.{NonAscii, LongLine, NumberSize, MomentRange}
use Rattle.passes.specs.declared.file.PassFile.{PassFile}
use Rattle.passes.proofs.Names.{blanks_most, end_most, until_most}
use Rattle.passes.proofs.Files.{after_stop, never_both, same_ok}
use Rattle.refusal.specs.Refusals.{answer as unless}

-- ---- parts: v stands in l at s

pub record Part (l : List ℕ) (s : ℕ) (v : List ℕ) : Type 0 where
  pub inside : s + length v ≤ length l
  pub is : take (length v) (drop s l) ≡ v

drop_of_take : (j n : ℕ) (x : List ℕ) → drop j (take n x) ≡ take (n - j) (drop j x)
drop_of_take zero n x = ap (λ (k : ℕ). take k x) (sym (sub-zero n))
drop_of_take (suc j) zero x = let e : 0 - suc j ≡ 0 = omega arith in ap (λ (k : ℕ). take k (drop (suc j) x)) (sym e)
drop_of_take (suc j) (suc n) [] = sym (take-nil (suc n - suc j))
drop_of_take (suc j) (suc n) (c ∷ x) = let e : suc n - suc j ≡ n - j = omega arith in drop_of_take j n x ∙ ap (λ (k : ℕ). take k (drop j x)) (sym e)

part_drop : {l : List ℕ} {s : ℕ} {t : List ℕ} (j : ℕ) → j ≤ length t → Part l s t → Part l (s + j) (drop j t)
part_drop {l = l} {s = s} {t = t} j h p =
    let i = p.inside in
    record {
      inside = omega (arith, length-drop j t);
      is = (λ z. take (length-drop j t z) (sym (drop-drop j s l) z)) ∙ sym (drop_of_take j (length t) (drop s l)) ∙ ap (drop j) p.is;
    }

part_take : {l : List ℕ} {s : ℕ} {t : List ℕ} (n : ℕ) → n ≤ length t → Part l s t → Part l s (take n t)
part_take {l = l} {s = s} {t = t} n h p =
    let i = p.inside in
    let m = length-take-le n t h in
    record {
      inside = omega arith;
      is = ap (λ (k : ℕ). take k (drop s l)) m ∙ sym (take-take n (length t) (drop s l) h) ∙ ap (take n) p.is;
    }

end_prefix : (l : List ℕ) → take (length (trim_end l)) l ≡ trim_end l
unfolding trim_end keep_trimmed
end_prefix [] = refl
end_prefix (c ∷ l) = go (trim_end l) (end_prefix l)
  where
    one : (b : Bool) → take (length (cond b [] (c ∷ []))) (c ∷ l) ≡ cond b [] (c ∷ [])
    one true = refl
    one false = refl

    go : (m : List ℕ) → take (length m) l ≡ m → take (length (keep_trimmed c m)) (c ∷ l) ≡ keep_trimmed c m
    go [] h = one (blank c)
    go (b ∷ m) h = ap (λ (x : List ℕ). c ∷ x) h

part_trim : {l : List ℕ} {s : ℕ} {t : List ℕ} → Part l s t → Part l (s + blanks t) (trim t)
unfolding trim
part_trim {l = l} {s = s} {t = t} p =
    let u = drop (blanks t) t in
    subst (Part l (s + blanks t)) (end_prefix u) (part_take (length (trim_end u)) (end_most u) (part_drop (blanks t) (blanks_most t) p))

part_join : {f : List ℕ} {a : ℕ} {b : List ℕ} {s : ℕ} {v : List ℕ} → Part f a b → Part b s v → Part f (a + s) v
part_join {f = f} {a = a} {b = b} {s = s} {v = v} p q =
    let i = p.inside in
    let j = q.inside in
    record {
      inside = omega arith;
      is = sym (take-take (length v) (length b - s) (drop (a + s) f) (omega arith))
          ∙ ap (λ (x : List ℕ). take (length v) (take (length b - s) x)) (sym (drop-drop s a f))
          ∙ ap (take (length v)) (sym (drop_of_take s (length b) (drop a f)) ∙ ap (drop s) p.is)
          ∙ q.is;
    }

part_all : (l : List ℕ) → Part l 0 l
part_all l = record { inside = omega arith; is = take_all (length l) l (omega arith) }

-- ---- what a line says of the name

abbrev Tells : List ℕ → Result Line Refusal → Option (List ℕ) → Type 0
Tells l (Ok Skipped) n = n ≡ none
Tells l (Err r) n = n ≡ none
Tells l (Ok (Name p)) n = (v : List ℕ) × (n ≡ some v) × Part l p.start v × (p.end ≡ p.start + length v)
Tells l (Ok (Center f)) n = n ≡ none
Tells l (Ok (Sample t f)) n = n ≡ none

module _ (l : List ℕ) where
  pick : (b : Bool) (x y : Result Line Refusal) → Tells l x none → Tells l y none → Tells l (cond b x y) none
  pick true x y p q = p
  pick false x y p q = q

  sample_of_tells : (t : Timestamp) (v : Number) → Tells l (sample_of t v) none
  sample_of_tells t (Err NotANumber) = refl
  sample_of_tells t (Ok f) = pick (inside t.seconds t.nanos) (Ok (Sample (since1970 t.seconds t.nanos) f)) (Err MomentRange) refl refl
  sample_of_tells t (Err TooLong) = pick (inside t.seconds t.nanos) (Err NumberSize) (Err MomentRange) refl refl

  pair_tells : (t : Answer Timestamp) (v : Number) → Tells l (pair_of t v) none
  pair_tells None v = refl
  pair_tells (Some t) v = sample_of_tells t v

  sample_tells : (t : List ℕ) → Tells l (sample t) none
  unfolding sample fields
  sample_tells t = pick (eqb (until 44 t) (length t)) (Ok Skipped) (fields (take (until 44 t) t) (drop (until 44 t + 1) t)) refl (pair_tells (date_time_of (take (until 44 t) t)) (number (take (until 44 (drop (until 44 t + 1) t)) (drop (until 44 t + 1) t))))

  center_tells : (v : Number) → Tells l (center_line v) none
  center_tells (Err NotANumber) = refl
  center_tells (Ok f) = refl
  center_tells (Err TooLong) = refl

  named_tells : (key : List ℕ) (s : ℕ) (v : List ℕ) → Part l s v
      → Tells l (named key s v) (cond (spells key (bytes "satellite_name")) (some (trim v)) none)
  unfolding named
  named_tells key s v p = go (spells key (bytes "satellite_name"))
      (spells key (bytes "center_frequency"))
    where
      go : (b d : Bool) → Tells l (cond b (Ok (Name (part (s + blanks v) (s + (blanks v + length (trim v)))))) (cond d (center_line (number (trim v))) (Ok Skipped))) (cond b (some (trim v)) none)
      go true d = (trim v, refl, part_trim p, omega arith)
      go false d = pick d (center_line (number (trim v))) (Ok Skipped) (center_tells (number (trim v))) refl

  header_tells : (s : ℕ) (h : List ℕ) → Part l s h → Tells l (header s h) (value_of h)
  unfolding header value_of
  header_tells s h p = go (eqb (until 58 h) (length h)) refl
    where
      go : (b : Bool) → eqb (until 58 h) (length h) ≡ b
          → Tells l (cond b (Ok Skipped) (named (trim (take (until 58 h) h)) (s + (until 58 h + 1)) (drop (until 58 h + 1) h)))
          (cond b none (cond (spells (trim (take (until 58 h) h)) (bytes "satellite_name")) (some (trim (drop (until 58 h + 1) h))) none))
      go true e = refl
      go false e = named_tells _ _ _ (part_drop (until 58 h + 1) (omega (arith, until_most 58 h, eqb-false (until 58 h) (length h) e)) p)

  text_tells : (s : ℕ) (t : List ℕ) → Part l s t → Tells l (trimmed_line s t) (headed t)
  unfolding trimmed_line headed
  text_tells s [] p = refl
  text_tells s (c ∷ t) p = subst (λ (b : Bool). Tells l (cond b (Ok Skipped) (cond (eqb c 35) (header (s + 1) t) (sample (c ∷ t)))) (cond (eqb c 35) (value_of t) none)) (sym (ne_eqb (suc (length t)) 0 (λ (e : suc (length t) ≡ 0). omega arith))) (go (eqb c 35))
    where
      go : (b : Bool) → Tells l (cond b (header (s + 1) t) (sample (c ∷ t))) (cond b (value_of t) none)
      go true = header_tells (s + 1) t (part_drop 1 (omega arith) p)
      go false = sample_tells (c ∷ t)

  line_tells : Tells l (line_of l) (called_in l)
  unfolding line_of called_in
  line_tells = go (not (ascii l)) (ltb 256 (length l)) NonAscii LongLine
    where
      go : (a b : Bool) (j k : Refusal) → Tells l (cond a (Err j) (cond b (Err k) (trimmed_line (blanks l) (trim l)))) (cond a none (cond b none (headed (trim l))))
      go true b j k = refl
      go false true j k = refl
      go false false j k = text_tells (blanks l) (trim l) (subst (λ (s : ℕ). Part l s (trim l)) (zero-add (blanks l)) (part_trim (part_all l)))

-- ---- every line stands in its file at its place

data All (file : List ℕ) : List Placed → Type 0 where
  no_line : All file []
  more : {l : Placed} {ls : List Placed} → Part file l.at l.bytes → All file ls → All file (l ∷ ls)

data First (at : ℕ) : List Placed → Type 0 where
  no_first : First at []
  begins : {l : Placed} {ls : List Placed} → l.at ≡ at → First at (l ∷ ls)

first_pushed : (at : ℕ) (cs : List ℕ) (ls : List Placed) → First at (push at cs ls)
unfolding push
first_pushed at cs [] = begins refl
first_pushed at cs (l ∷ ls) = begins refl

first_line_lem : (at : ℕ) (l : List ℕ) → First at (lines at l)
unfolding lines
first_line_lem at [] = no_first
first_line_lem at (c ∷ l) = go (eqb c 10) (lines (at + 1) l) (cond (eqb c 13 && starts_lf l) [] (c ∷ []))
  where
    go : (b : Bool) (ls : List Placed) (cs : List ℕ) → First at (cond b (record { at = at; bytes = [] } ∷ ls) (push at cs ls))
    go true ls cs = begins refl
    go false ls cs = first_pushed at cs ls

-- what stands in the file from `at` on
record From (file : List ℕ) (at : ℕ) (l : List ℕ) : Type 0 where
  pub long : at + length l ≡ length file
  pub is : drop at file ≡ l

empty_part : {file : List ℕ} {at : ℕ} {l : List ℕ} → From file at l → Part file at []
empty_part f = let g = f.long in record { inside = omega arith; is = refl }

next_from : {file : List ℕ} {at c : ℕ} {l : List ℕ} → From file at (c ∷ l) → From file (at + 1) l
next_from {file = file} {at = at} f = let g = f.long in record { long = omega arith; is = sym (drop-drop 1 at file) ∙ ap (drop 1) f.is }

pushed : (file : List ℕ) (at c : ℕ) (l : List ℕ) (ls : List Placed) → From file at (c ∷ l) → All file ls → First (at + 1) ls → All file (push at (c ∷ []) ls)
unfolding push
pushed file at c l [] f no_line no_first = let g = f.long in more {l = record { at = at; bytes = c ∷ [] }} (record { inside = omega arith; is = ap (take 1) f.is }) no_line
pushed file at c l (q ∷ ls) f (more p a) (begins e) =
    let g = f.long in
    let i = p.inside in
    more {l = record { at = at; bytes = c ∷ q.bytes }}
    (record {
      inside = omega arith;
      is = ap (take (suc (length q.bytes))) f.is ∙ ap (λ (x : List ℕ). c ∷ x) (ap (take (length q.bytes)) (sym (next_from f).is ∙ ap (λ (k : ℕ). drop k file) (sym e)) ∙ p.is);
    })
    a

-- a CR before LF: the line is empty
ended : (file : List ℕ) (at : ℕ) (l : List ℕ) → starts_lf l ≡ true → Part file at [] → All file (lines (at + 1) l) → All file (push at [] (lines (at + 1) l))
unfolding starts_lf lines push
ended file at [] e p a = let z : ◌≡◌ {A = ℕ} 0 1 = cc in absurd (omega arith)
ended file at (d ∷ l) e p a = go (eqb d 10) e (push (at + 1) (cond (eqb d 13 && starts_lf l) [] (d ∷ [])) (lines (at + 1 + 1) l)) a
  where
    go : (b : Bool) → b ≡ true → (other : List Placed) → All file (cond b (record { at = at + 1; bytes = [] } ∷ lines (at + 1 + 1) l) other)
        → All file (push at [] (cond b (record { at = at + 1; bytes = [] } ∷ lines (at + 1 + 1) l) other))
    go true h other (more q a) = more p a
    go false h other a = let z : ◌≡◌ {A = ℕ} 0 1 = cc in absurd (omega arith)

placed : (file : List ℕ) (at : ℕ) (l : List ℕ) → From file at l → All file (lines at l)
unfolding lines
placed file at [] f = no_line
placed file at (c ∷ l) f = go (eqb c 10) (eqb c 13) (starts_lf l) refl (placed file (at + 1) l (next_from f))
  where
    go : (b d e : Bool) → starts_lf l ≡ e → All file (lines (at + 1) l) → All file (cond b (record { at = at; bytes = [] } ∷ lines (at + 1) l) (push at (cond (d && e) [] (c ∷ [])) (lines (at + 1) l)))
    go true d e h a = more (empty_part f) a
    go false true true h a = ended file at l h (empty_part f) a
    go false true false h a = pushed file at c l (lines (at + 1) l) f a (first_line_lem (at + 1) l)
    go false false e h a = pushed file at c l (lines (at + 1) l) f a (first_line_lem (at + 1) l)

-- ---- all lines

module _ (file : List ℕ) where
  tells_next : (p : PassFile) (at : ℕ) (b : List ℕ) (x : Line) (n m : Option (List ℕ)) → Part file at b → Tells b (Ok x) n → part_of file p ≡ m → part_of file (advance p at x) ≡ later n m
  unfolding name_at
  tells_next p at b Skipped n m q t h = subst (λ (k : Option (List ℕ)). part_of file p ≡ later k m) (sym t) h
  tells_next p at b (Name o) n m q t h =
      let v = t.0 in
      let w = part_join q t.2 in
      let i = w.inside in
      let f = t.3 in
      let d : at + o.end - (at + o.start) ≡ length v = omega arith in
      simp (le-ltb (length file) (at + o.end) (omega arith), le-ltb (at + o.end) (at + o.start) (omega arith), d, w.is, t.1)
  tells_next p at b (Center f) n m q t h = subst (λ (k : Option (List ℕ)). part_of file p ≡ later k m) (sym t) h
  tells_next p at b (Sample u f) n m q t h = subst (λ (k : Option (List ℕ)). part_of file p ≡ later k m) (sym t) h

  tells_all : (p : PassFile) (ls : List Placed) (m : Option (List ℕ)) {r : PassFile} → All file ls → part_of file p ≡ m → after (Ok p) ls ≡ Ok r → part_of file r ≡ last_called m ls
  unfolding after last_called
  tells_all p [] m a h e = subst (λ (q : PassFile). part_of file q ≡ m) (same_ok e) h
  tells_all p (l ∷ ls) m {r = r} (more q a) h e = go (line_of l.bytes) (line_tells l.bytes) (λ n k. tells_all n ls k a) e
    where
      go : (x : Result Line Refusal) → Tells l.bytes x (called_in l.bytes)
          → ((n : PassFile) (k : Option (List ℕ)) → part_of file n ≡ k → after (Ok n) ls ≡ Ok r → part_of file r ≡ last_called k ls)
          → after (advanced p l.at x) ls ≡ Ok r → part_of file r ≡ last_called (later (called_in l.bytes) m) ls
      go (Ok x) t ih f = ih (advance p l.at x) (later (called_in l.bytes) m) (tells_next p l.at l.bytes x (called_in l.bytes) m q t h) f
      go (Err k) t ih f = never_both (sym (after_stop k ls) ∙ f)

  scanned_name : {r : PassFile} → scanned file ≡ Ok r → part_of file r ≡ last_called none (lines 0 file)
  unfolding opening
  scanned_name e = tells_all opening (lines 0 file) none (placed file 0 file (record { long = omega arith; is = refl })) refl e

  -- the theorem
  pub name_part : (nt nf : ℕ) (r : PassFile) → answer file nt nf ≡ Ok r → part_of file r ≡ last_called none (lines 0 file)
  name_part nt nf r e = go (scanned file) refl e
    where
      taken : (p : PassFile) (o : Answer Refusal) → scanned file ≡ Ok p → unless o p ≡ Ok r → part_of file r ≡ last_called none (lines 0 file)
      taken p None g f = subst (λ (q : PassFile). part_of file q ≡ last_called none (lines 0 file)) (same_ok f) (scanned_name g)
      taken p (Some k) g f = never_both f

      go : (x : Result PassFile Refusal) → scanned file ≡ x → with_room nt nf x ≡ Ok r → part_of file r ≡ last_called none (lines 0 file)
      go (Ok p) g f = taken p (room_refusal p nt nf) g f
      go (Err k) g f = never_both f

-- so for what `read_pass_file` promises
pub name_read : {file : List ℕ} {times times' : List ℤ} {freqs freqs' : List Float} {r : PassFile} → Reads file times times' freqs freqs' (Ok r) → part_of file r ≡ last_called none (lines 0 file)
name_read {file = file} {times = times} {freqs = freqs} {r = r} h = name_part file (length times) (length freqs) r (sym h.says)

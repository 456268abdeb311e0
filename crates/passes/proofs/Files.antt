-- The lines of a file one after the other: what is left to read and to store. Assumes nothing.
use mathlib.Core.Path.{◌≡◌, refl, sym, ap, ◌∙◌, subst}
use mathlib.Core.List.{List, [], ◌∷◌, ◌++◌}
use Prim.Native.Nat.{ℕ, ◌+◌, ◌-◌, ◌≤◌, ◌<◌}
use native.Mathlib.Nat.{add-zero}
use native.Mathlib.Numerals.{add-one}
use native.Mathlib.Omega.{arith}
use Rattle.std.proofs.Common.{Result, Ok, Err}
use lib.IntN.{ℤ}
use lib.Ieee.{Float}
use lib.ListN.{length, take, drop, set, drop_of_length-le, length-drop}
use lib.Seq.{sets, sets-eq, length-sets, drop-drop, length-take-le, take-append_seam}
use Rattle.passes.specs.Text.{Placed, lines, Cut}
use Rattle.passes.specs.Line.{line_of}
use Rattle.passes.specs.File.{opening, advance, advanced, after, time_before, freq_before, times_of, freqs_of, scanned, BeforeLine, Stepped, Scan}
use Rattle.passes.specs.declared.line.Line.{Line}
use Rattle.passes.specs.declared.pieces.Span.{Span}
use Rattle.passes.specs.declared.line.Line.TheVariants.{Skipped, Name, Center, Sample}
use Rattle.refusal.specs.declared.Refusal.{Refusal}
use Rattle.passes.specs.declared.file.PassFile.{PassFile}
use Rattle.laws.proofs.Lists.{rest}
use Rattle.passes.proofs.Names.{Within, line_in}

pub same_line : (file : List ℕ) (at n : ℕ) → take (at + n - at) (drop at file) ≡ take n (drop at file)
same_line file at n = let e : at + n - at ≡ n = omega arith in ap (λ (k : ℕ). take k (drop at file)) e

-- ---- a line at a place
pub record LineAt (file : List ℕ) (at n next : ℕ) : Type 0 where
  pub size : n ≤ next
  pub more : 0 < next
  pub inside : at + next ≤ length file
  pub is : lines at (drop at file) ≡ record { at = at; bytes = take n (drop at file) } ∷ lines (at + next) (drop (at + next) file)

pub line_at : (file : List ℕ) (at n next : ℕ) → at ≤ length file → Cut (take (length file - at) (drop at file)) n next → LineAt file at n next
line_at file at n next h c =
    let r = rest file at in
    let m = length-drop at file in
    let o = ap length r in
    let i = c.inside in
    record {
      size = c.size;
      more = c.more;
      inside = omega arith;
      is = sym (ap (lines at) r) ∙ c.is at ∙ (λ j. record { at = at; bytes = take n (r j) } ∷ lines (at + next) (drop next (r j)))
          ∙ ap (λ (l : List ℕ). record { at = at; bytes = take n (drop at file) } ∷ lines (at + next) l) (drop-drop next at file);
    }

-- the places of a name that a line has
pub name_in : (file : List ℕ) (at n : ℕ) {x : Result Line Refusal} {y : Line} {p : Span} → at + n ≤ length file → x ≡ line_of (take (at + n - at) (drop at file)) → x ≡ Ok y → y ≡ Name p → (at + p.start ≤ length file) × (at + p.end ≤ length file)
name_in file at n {x} {y} {p} room e g o =
    let l = take (at + n - at) (drop at file) in
    let w : Within (length l) (Ok (Name p)) = subst (λ (z : Line). Within (length l) (Ok z)) o (subst (Within (length l)) (sym e ∙ g) (line_in l)) in
    let r = w.order in
    let i = w.inside in
    let k = length-take-le (at + n - at) (drop at file) (omega (arith, length-drop at file)) in
    (omega arith, omega arith)

-- ---- the lines' state
after_next : (p : PassFile) (l : Placed) (ls : List Placed) → after (Ok p) (l ∷ ls) ≡ after (advanced p l.at (line_of l.bytes)) ls
unfolding after
after_next p l ls = refl

pub after_stop : (k : Refusal) (ls : List Placed) → after (Err k) ls ≡ Err k
unfolding after
after_stop k [] = refl
after_stop k (l ∷ ls) = refl

after_none : (p : PassFile) → after (Ok p) [] ≡ Ok p
unfolding after
after_none p = refl

-- no answer is both a refusal and a value, and a value is one
module _ {T : Type 0} where
  pub never_both : {A : Type 0} {k : Refusal} {p : T} → ◌≡◌ {A = Result T Refusal} (Err k) (Ok p) → A
  never_both e = let z : ◌≡◌ {A = ℕ} 0 1 = cc in absurd (omega arith)

  pub same_ok : {p q : T} → ◌≡◌ {A = Result T Refusal} (Ok p) (Ok q) → p ≡ q
  same_ok e = cc

-- how many samples a line brings
count_next : (p : PassFile) {q : PassFile} (at : ℕ) (x : Result Line Refusal) → advanced p at x ≡ Ok q → q.count ≡ p.count + length (time_before x [])
count_next p at (Ok x) e = sym (ap (λ (f : PassFile). f.count) (same_ok e)) ∙ line_count p at x
  where
    line_count : (p : PassFile) (at : ℕ) (x : Line) → (advance p at x).count ≡ p.count + length (time_before (Ok x) [])
    line_count p at Skipped = omega arith
    line_count p at (Name n) = omega arith
    line_count p at (Center f) = omega arith
    line_count p at (Sample t f) = omega arith
count_next p at (Err r) e = never_both e

at_most_one : (x : Result Line Refusal) → length (time_before x []) ≤ 1
at_most_one (Ok Skipped) = omega arith
at_most_one (Err r) = omega arith
at_most_one (Ok (Name n)) = omega arith
at_most_one (Ok (Center f)) = omega arith
at_most_one (Ok (Sample t f)) = omega arith

-- what is left to read gives the whole
pub record Scanned (file : List ℕ) (at : ℕ) (s : PassFile) : Type 0 where
  pub inside : at ≤ length file
  pub count : s.count ≤ at
  pub left : after (Ok s) (lines at (drop at file)) ≡ scanned file

scan_start : {file : List ℕ} {s : PassFile} → s ≡ opening → Scanned file 0 s
unfolding opening
scan_start {file = file} {s = s} h =
    let k : s.count ≡ 0 = ap (λ (p : PassFile). p.count) h in
    record { inside = omega arith; count = omega arith; left = ap (λ (p : PassFile). after (Ok p) (lines 0 file)) h }

module _ {file : List ℕ} {at n next : ℕ} {s : PassFile} {r : Result PassFile Refusal} {times times' : List ℤ} {freqs freqs' : List Float} (a : Scanned file at s) (l : LineAt file at n next) (t : Stepped file at n s times times' freqs freqs' r) where
  moved : after r (lines (at + next) (drop (at + next) file)) ≡ scanned file
  moved =
      ap (λ (p : Result PassFile Refusal). after p (lines (at + next) (drop (at + next) file))) t.is
      ∙ sym (after_next s (record { at = at; bytes = take n (drop at file) }) (lines (at + next) (drop (at + next) file)))
      ∙ ap (after (Ok s)) (sym l.is)
      ∙ a.left

  scan_more : {q : PassFile} → r ≡ Ok q → Scanned file (at + next) q
  scan_more g =
      let ac = a.count in
      let tc = count_next s at (line_of (take n (drop at file))) (sym t.is ∙ g) in
      let one = at_most_one (line_of (take n (drop at file))) in
      let lm = l.more in
      record { inside = l.inside; count = omega arith; left = ap (λ (p : Result PassFile Refusal). after p (lines (at + next) (drop (at + next) file))) (sym g) ∙ moved }

  scan_refused : {k : Refusal} → r ≡ Err k → Err k ≡ scanned file
  scan_refused {k = k} g =
      sym (after_stop k (lines (at + next) (drop (at + next) file))) ∙ ap (λ (p : Result PassFile Refusal). after p (lines (at + next) (drop (at + next) file))) (sym g) ∙ moved

scan_end : {file : List ℕ} {at : ℕ} {s : PassFile} → Scanned file at s → length file ≤ at → Ok s ≡ scanned file
unfolding lines
scan_end {file = file} {at = at} {s = s} a h =
    sym (after_none s) ∙ ap (λ (l : List ℕ). after (Ok s) (lines at l)) (sym (drop_of_length-le file h)) ∙ a.left

-- ---- the samples' places
time_length : (x : Result Line Refusal) (ts : List ℤ) → length (time_before x ts) ≡ length (time_before x []) + length ts
time_length (Ok Skipped) ts = omega arith
time_length (Err r) ts = omega arith
time_length (Ok (Name n)) ts = omega arith
time_length (Ok (Center f)) ts = omega arith
time_length (Ok (Sample t f)) ts = omega arith

freq_length : (x : Result Line Refusal) (fs : List Float) → length (freq_before x fs) ≡ length (time_before x []) + length fs
freq_length (Ok Skipped) ts = omega arith
freq_length (Err r) ts = omega arith
freq_length (Ok (Name n)) ts = omega arith
freq_length (Ok (Center f)) ts = omega arith
freq_length (Ok (Sample t f)) ts = omega arith

time_join : (x : Result Line Refusal) (l : List ℤ) (k : ℕ) (ts : List ℤ) → sets l k (time_before x ts) ≡ sets (sets l k (time_before x [])) (k + length (time_before x [])) ts
time_join (Ok Skipped) l k ts = ap (λ (m : ℕ). sets l m ts) (sym (add-zero k))
time_join (Err r) l k ts = ap (λ (m : ℕ). sets l m ts) (sym (add-zero k))
time_join (Ok (Name n)) l k ts = ap (λ (m : ℕ). sets l m ts) (sym (add-zero k))
time_join (Ok (Center f)) l k ts = ap (λ (m : ℕ). sets l m ts) (sym (add-zero k))
time_join (Ok (Sample t f)) l k ts = ap (λ (m : ℕ). sets (set l k t) m ts) (sym (add-one k))

freq_join : (x : Result Line Refusal) (l : List Float) (k : ℕ) (fs : List Float) → sets l k (freq_before x fs) ≡ sets (sets l k (freq_before x [])) (k + length (time_before x [])) fs
freq_join (Ok Skipped) l k fs = ap (λ (m : ℕ). sets l m fs) (sym (add-zero k))
freq_join (Err r) l k fs = ap (λ (m : ℕ). sets l m fs) (sym (add-zero k))
freq_join (Ok (Name n)) l k fs = ap (λ (m : ℕ). sets l m fs) (sym (add-zero k))
freq_join (Ok (Center f)) l k fs = ap (λ (m : ℕ). sets l m fs) (sym (add-zero k))
freq_join (Ok (Sample t f)) l k fs = ap (λ (m : ℕ). sets (set l k f) m fs) (sym (add-one k))

-- what is left to read and to store gives the whole
pub record Scanning (file : List ℕ) (times₀ : List ℤ) (freqs₀ : List Float) (at : ℕ) (s : PassFile) (times : List ℤ) (freqs : List Float) : Type 0 where
  pub read : Scanned file at s
  pub left_times : sets times s.count (times_of (lines at (drop at file))) ≡ sets times₀ 0 (times_of (lines 0 file))
  pub left_freqs : sets freqs s.count (freqs_of (lines at (drop at file))) ≡ sets freqs₀ 0 (freqs_of (lines 0 file))
  pub same : length times ≡ length freqs
  pub long_times : length times ≡ length times₀
  pub long_freqs : length freqs ≡ length freqs₀

pub scanning_start : {file : List ℕ} {s : PassFile} {times : List ℤ} {freqs : List Float} → s ≡ opening → length times ≡ length freqs → Scanning file times freqs 0 s times freqs
unfolding opening
scanning_start {file = file} {times = times} {freqs = freqs} h e =
    record {
      read = scan_start h;
      left_times = ap (λ (p : PassFile). sets times p.count (times_of (lines 0 file))) h;
      left_freqs = ap (λ (p : PassFile). sets freqs p.count (freqs_of (lines 0 file))) h;
      same = e;
      long_times = refl;
      long_freqs = refl;
    }

pub scanning_ready : {file : List ℕ} {times₀ times : List ℤ} {freqs₀ freqs : List Float} {at n next : ℕ} {s : PassFile} → Scanning file times₀ freqs₀ at s times freqs → LineAt file at n next → BeforeLine file at n s times freqs
scanning_ready a l = let i = l.inside in let z = l.size in record { room = omega arith; count = a.read.count; same = a.same }

module _ {file : List ℕ} {times₀ times times' : List ℤ} {freqs₀ freqs freqs' : List Float} {at n next : ℕ} {s : PassFile} {r : Result PassFile Refusal}
    (a : Scanning file times₀ freqs₀ at s times freqs) (l : LineAt file at n next) (t : Stepped file at n s times times' freqs freqs' r) where
  kept_times : length times' ≡ length times₀
  kept_times = ap length t.stored.put_times ∙ length-sets times s.count (time_before (line_of (take n (drop at file))) []) ∙ a.long_times

  kept_freqs : length freqs' ≡ length freqs₀
  kept_freqs = ap length t.stored.put_freqs ∙ length-sets freqs s.count (freq_before (line_of (take n (drop at file))) []) ∙ a.long_freqs

  pub scanning_more : {q : PassFile} → r ≡ Ok q → Scanning file times₀ freqs₀ (at + next) q times' freqs'
  unfolding times_of freqs_of
  scanning_more g =
      let x = line_of (take n (drop at file)) in
      let k = s.count in
      let place = count_next s at x (sym t.is ∙ g) in
      let ts = times_of (lines (at + next) (drop (at + next) file)) in
      let fs = freqs_of (lines (at + next) (drop (at + next) file)) in
      record {
        read = scan_more a.read l t g;
        left_times = (λ z. sets (t.stored.put_times z) (place z) ts) ∙ sym (time_join x times k ts) ∙ ap (λ (ls : List Placed). sets times k (times_of ls)) (sym l.is) ∙ a.left_times;
        left_freqs = (λ z. sets (t.stored.put_freqs z) (place z) fs) ∙ sym (freq_join x freqs k fs) ∙ ap (λ (ls : List Placed). sets freqs k (freqs_of ls)) (sym l.is) ∙ a.left_freqs;
        same = let p = kept_times in let q = kept_freqs in let u = a.same in let v = a.long_times in let w = a.long_freqs in omega arith;
        long_times = kept_times;
        long_freqs = kept_freqs;
      }

  pub scanning_refused : {k : Refusal} {z : Result PassFile Refusal} → r ≡ Err k → z ≡ Err k → Scan file times₀ times' freqs₀ freqs' z
  scanning_refused g e = record { says = e ∙ scan_refused a.read l t g; put_times = λ p z. never_both (sym e ∙ z); put_freqs = λ p z. never_both (sym e ∙ z) }

pub scanning_end : {file : List ℕ} {times₀ times : List ℤ} {freqs₀ freqs : List Float} {at : ℕ} {s : PassFile} → Scanning file times₀ freqs₀ at s times freqs → length file ≤ at → Scan file times₀ times freqs₀ freqs (Ok s)
unfolding lines times_of freqs_of
scanning_end {file = file} {times = times} {freqs = freqs} {at = at} {s = s} a h =
    record {
      says = scan_end a.read h;
      put_times = λ _ _. ap (λ (l : List ℕ). sets times s.count (times_of (lines at l))) (sym (drop_of_length-le file h)) ∙ a.left_times;
      put_freqs = λ _ _. ap (λ (l : List ℕ). sets freqs s.count (freqs_of (lines at l))) (sym (drop_of_length-le file h)) ∙ a.left_freqs;
    }

-- ---- as many samples are counted as stored
pub record Counted (n : ℕ) (ls : List Placed) : Type 0 where
  pub times : n ≡ length (times_of ls)
  pub freqs : n ≡ length (freqs_of ls)

count_times : (p : PassFile) (ls : List Placed) {q : PassFile} → after (Ok p) ls ≡ Ok q → q.count ≡ p.count + length (times_of ls)
unfolding after times_of
count_times p [] e = let c = ap (λ (f : PassFile). f.count) (same_ok e) in omega arith
count_times p (l ∷ ls) {q = q} e = go (advanced p l.at (line_of l.bytes)) refl (λ m. count_times m ls) e
  where
    regroup : (a b c : ℕ) → a + b + c ≡ a + (b + c)
    regroup a b c = omega arith

    go : (x : Result PassFile Refusal) → advanced p l.at (line_of l.bytes) ≡ x → ((m : PassFile) → after (Ok m) ls ≡ Ok q → q.count ≡ m.count + length (times_of ls)) → after x ls ≡ Ok q → q.count ≡ p.count + length (time_before (line_of l.bytes) (times_of ls))
    go (Ok m) h ih f = ih m f ∙ ap (λ (n : ℕ). n + length (times_of ls)) (count_next p l.at (line_of l.bytes) h) ∙ regroup p.count (length (time_before (line_of l.bytes) [])) (length (times_of ls)) ∙ ap (λ (n : ℕ). p.count + n) (sym (time_length (line_of l.bytes) (times_of ls)))
    go (Err k) h ih f = never_both (sym (after_stop k ls) ∙ f)

same_count : (ls : List Placed) → length (times_of ls) ≡ length (freqs_of ls)
unfolding times_of freqs_of
same_count [] = refl
same_count (l ∷ ls) = time_length (line_of l.bytes) (times_of ls) ∙ ap (λ (n : ℕ). length (time_before (line_of l.bytes) []) + n) (same_count ls) ∙ sym (freq_length (line_of l.bytes) (freqs_of ls))

pub counted : (file : List ℕ) {s : PassFile} → Ok s ≡ scanned file → Counted s.count (lines 0 file)
unfolding opening
counted file {s} h =
    let n : s.count ≡ length (times_of (lines 0 file)) = count_times opening (lines 0 file) (sym h) ∙ zero_less (length (times_of (lines 0 file))) in
    record { times = n; freqs = n ∙ same_count (lines 0 file) }
  where
    zero_less : (n : ℕ) → 0 + n ≡ n
    zero_less n = omega arith

-- ---- what was kept apart, copied
pub record Filled (file : List ℕ) (times times' : List ℤ) (freqs freqs' : List Float) : Type 0 where
  pub put_times : times' ≡ sets times 0 (times_of (lines 0 file))
  pub put_freqs : freqs' ≡ sets freqs 0 (freqs_of (lines 0 file))

-- the first places hold what was stored there
module _ {ℓ} {A : Type ℓ} where
  front : (l vs : List A) → length vs ≤ length l → take (length vs) (sets l 0 vs) ≡ vs
  front l vs h = ap (take (length vs)) (sets-eq vs l 0 (omega arith)) ∙ take-append_seam vs (drop (0 + length vs) l)

  -- a copy to the first places
  pub to_front : (to src : List A) (n : ℕ) → n ≤ length to → n ≤ length src → take n src ++ drop n to ≡ sets to 0 (take n src)
  to_front to src n h g =
      let e = length-take-le n src g in
      sym (sets-eq (take n src) to 0 (omega arith) ∙ ap (λ (k : ℕ). take n src ++ drop k to) (let z : 0 + length (take n src) ≡ n = omega arith in z))

pub copied : (file : List ℕ) {r : Result PassFile Refusal} {s : PassFile} {kept₀ kept : List ℤ} {keptf₀ keptf : List Float} {times times' : List ℤ} {freqs freqs' : List Float}
    → Scan file kept₀ kept keptf₀ keptf r → r ≡ Ok s → s.count ≤ length kept₀ → s.count ≤ length keptf₀
    → times' ≡ sets times 0 (take s.count kept) → freqs' ≡ sets freqs 0 (take s.count keptf) → Filled file times times' freqs freqs'
copied file {s = s} {kept₀ = k₀} {keptf₀ = f₀} {times = times} {freqs = freqs} h g n m p q =
    let c = counted file (sym g ∙ h.says) in
    let ts = times_of (lines 0 file) in
    let fs = freqs_of (lines 0 file) in
    record {
      put_times = p ∙ ap (sets times 0) ((λ i. take (c.times i) (h.put_times s g i)) ∙ front k₀ ts (subst (λ (x : ℕ). x ≤ length k₀) c.times n));
      put_freqs = q ∙ ap (sets freqs 0) ((λ i. take (c.freqs i) (h.put_freqs s g i)) ∙ front f₀ fs (subst (λ (x : ℕ). x ≤ length f₀) c.freqs m));
    }

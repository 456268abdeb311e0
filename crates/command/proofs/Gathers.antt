-- What a file adds to a set, from what the reader of a file promises. Assumes nothing.
use Rattle.std.proofs.Common.{◌≡◌, ℕ, suc, ◌+◌, ◌-◌, ◌<◌, ◌≤◌, Bool, true, false, ltb, List, [], ◌∷◌, ◌++◌, length, take, drop, set, ℤ, sym, refl, ap, ◌∙◌, subst, true≢false, arith, length-drop, take-append-drop, length-take-le, ltb-false, le-ltb, lt-ltb, le-leb, Result, Ok, Err, Some, None}
use Rattle.std.proofs.Common.{Option as Maybe}
use lib.Ieee.{Float}
use lib.Seq.{sets, sets-eq, length-sets, take-append_seam, take-append-le, take-append-add, set_split}
use borrow.Author.Tests.{lt-leb}
use Rattle.refusal.specs.declared.Refusal.{Refusal}
use Rattle.refusal.specs.declared.Refusal.TheVariants.{Sizes, ShortMemory}
use Rattle.refusal.specs.Refusals.{first_of, ◌when◌, answer as unless}
use Rattle.passes.specs.Text.{lines}
use Rattle.passes.specs.File.{scanned, times_of, freqs_of, written, Reads}
use Rattle.passes.specs.File as File
use Rattle.passes.specs.declared.file.PassFile.{PassFile}
use Rattle.passes.proofs.Files.{counted, never_both, same_ok}
use Rattle.command.specs.Gather.{is_full, roomless, set_answer, gather_answer, Appended, Adds}

-- ---- what is known of an accepted file

pub record Accepts (q : PassFile) (nt nf : ℕ) : Type 0 where
  pub few : q.count ≤ 4096
  pub times : q.count ≤ nt
  pub freqs : q.count ≤ nf

room_none : (q : PassFile) (nt nf : ℕ) → File.room_refusal q nt nf ≡ None → Accepts q nt nf
unfolding File.room_refusal
room_none q nt nf = go (ltb 4096 q.count) (ltb nt q.count) (ltb nf q.count) refl refl refl
  where
    none_some : {k : Refusal} → ◌≡◌ {A = Maybe Refusal} (Some k) None → Accepts q nt nf
    none_some e = let z : ◌≡◌ {A = ℕ} 0 1 = cc in absurd (omega arith)

    go : (a b c : Bool) → ltb 4096 q.count ≡ a → ltb nt q.count ≡ b → ltb nf q.count ≡ c → first_of ((Sizes when a) ∷ (ShortMemory when b) ∷ (ShortMemory when c) ∷ []) ≡ None → Accepts q nt nf
    go true b c x y z e = none_some e
    go false true c x y z e = none_some e
    go false false true x y z e = none_some e
    go false false false x y z e = record { few = ltb-false _ _ x; times = ltb-false _ _ y; freqs = ltb-false _ _ z }

-- an answer that is none of a refusal says what the lines say
pub given : (file : List ℕ) (nt nf : ℕ) {q : PassFile} → File.answer file nt nf ≡ Ok q → (scanned file ≡ Ok q) × Accepts q nt nf
given file nt nf {q} = go (scanned file) refl
  where
    roomy : (p : PassFile) (o : Maybe Refusal) → File.room_refusal p nt nf ≡ o → scanned file ≡ Ok p → unless o p ≡ Ok q → (scanned file ≡ Ok q) × Accepts q nt nf
    roomy p None r s f = (s ∙ f, subst (λ (v : PassFile). Accepts v nt nf) (same_ok f) (room_none p nt nf r))
    roomy p (Some k) r s f = never_both f

    go : (x : Result PassFile Refusal) → scanned file ≡ x → File.with_room nt nf x ≡ Ok q → (scanned file ≡ Ok q) × Accepts q nt nf
    go (Ok p) s f = roomy p (File.room_refusal p nt nf) refl s f
    go (Err k) s f = never_both f

-- ---- lists

-- the part from s on put back as it was
pub put_back : {A : Type 0} (s k : ℕ) (xs ys : List A) → ys ≡ take k (drop s xs) → take s xs ++ (ys ++ drop k (drop s xs)) ≡ xs
put_back s k xs ys e = ap (λ (l : List _). take s xs ++ (l ++ drop k (drop s xs))) e ∙ ap (take s xs ++◌) (take-append-drop k (drop s xs)) ∙ take-append-drop s xs

-- new elements in its first places
taken : {A : Type 0} (d new rest : List A) (n : ℕ) → n ≡ length new → n ≤ length d → take n (sets d 0 new ++ rest) ≡ new
taken d new rest n e h =
    let room : 0 + length new ≤ length d = omega (arith, e) in
    take-append-le n (sets d 0 new) rest (rw (length-sets d 0 new) h)
    ∙ ap (take n) (sets-eq new d 0 room)
    ∙ ap (λ (m : ℕ). take m (new ++ drop (0 + length new) d)) e
    ∙ take-append_seam new (drop (0 + length new) d)

pub put_new : {A : Type 0} (s k n : ℕ) (xs ys new : List A) → s ≤ length xs → k ≡ length xs - s → n ≡ length new → n ≤ k → ys ≡ sets (take k (drop s xs)) 0 new
    → take (s + n) (take s xs ++ (ys ++ drop k (drop s xs))) ≡ take s xs ++ new
put_new s k n xs ys new h m e l y =
    let size : length (take k (drop s xs)) ≡ k = length-take-le k (drop s xs) (rw length-drop (omega arith)) in
    ap (λ (j : ℕ). take (j + n) (take s xs ++ (ys ++ drop k (drop s xs)))) (sym (length-take-le s xs h))
    ∙ take-append-add (take s xs) (ys ++ drop k (drop s xs)) n
    ∙ ap (λ (r : List _). take s xs ++ take n (r ++ drop k (drop s xs))) y
    ∙ ap (take s xs ++◌) (taken (take k (drop s xs)) new (drop k (drop s xs)) n e (rw size l))

pub put_one : {A : Type 0} (p : ℕ) (xs : List A) (v : A) → p < length xs → take (p + 1) (set xs p v) ≡ take p xs ++ (v ∷ [])
put_one p xs v h =
    ap (take (p + 1)) (set_split xs p v h)
    ∙ ap (λ (j : ℕ). take (j + 1) (take p xs ++ (v ∷ drop (suc p) xs))) (sym (length-take-le p xs (omega arith)))
    ∙ take-append-add (take p xs) (v ∷ drop (suc p) xs) 1

-- ---- room

module _ (p s counts times freqs centers : ℕ) where
  full_counts : counts ≤ p → is_full p s counts times freqs centers ≡ true
  unfolding is_full
  full_counts a = simp (le-leb counts p a)

  full_centers : p < counts → centers ≤ p → is_full p s counts times freqs centers ≡ true
  unfolding is_full
  full_centers a b = simp (lt-leb counts p a, le-leb centers p b)

  full_times : p < counts → p < centers → times < s → is_full p s counts times freqs centers ≡ true
  unfolding is_full
  full_times a b d = simp (lt-leb counts p a, lt-leb centers p b, lt-ltb times s d)

  full_freqs : p < counts → p < centers → s ≤ times → freqs < s → is_full p s counts times freqs centers ≡ true
  unfolding is_full
  full_freqs a b d e = simp (lt-leb counts p a, lt-leb centers p b, le-ltb times s d, lt-ltb freqs s e)

  not_full : p < counts → p < centers → s ≤ times → s ≤ freqs → is_full p s counts times freqs centers ≡ false
  unfolding is_full
  not_full a b d e = simp (lt-leb counts p a, lt-leb centers p b, le-ltb times s d, le-ltb freqs s e)

-- ---- what is promised

-- the part of an array from s on, and the array with another in its place
abbrev pub part : {A : Type 0} → ℕ → List A → List A
part s xs = take (length xs - s) (drop s xs)

abbrev pub back : {A : Type 0} → ℕ → List A → List A → List A
back s xs ys = take s xs ++ (ys ++ drop (length xs - s) (drop s xs))

part_length : {A : Type 0} (s : ℕ) (xs : List A) → length (part s xs) ≡ length xs - s
part_length s xs = length-take-le (length xs - s) (drop s xs) (rw length-drop (omega arith))

module _ (file : List ℕ) (s : ℕ) (times : List ℤ) (freqs : List Float) {r : Result PassFile Refusal} {t : List ℤ} {f : List Float} (h : Reads file (part s times) t (part s freqs) f r) where
  whole : r ≡ File.answer file (length times - s) (length freqs - s)
  whole = subst (λ (n : ℕ). r ≡ File.answer file n (length freqs - s)) (part_length s times)
      (subst (λ (n : ℕ). r ≡ File.answer file (length (part s times)) n) (part_length s freqs) h.says)

  module _ {q : PassFile} (e : r ≡ Ok q) where
    accepted : (scanned file ≡ Ok q) × Accepts q (length times - s) (length freqs - s)
    accepted = given file (length times - s) (length freqs - s) (sym whole ∙ e)

    pub few_samples : q.count ≤ 4096
    few_samples = accepted.1.few

module _ (file : List ℕ) (p s : ℕ) (counts : List ℕ) (times : List ℤ) (freqs centers : List Float) where
  none_left : is_full p s (length counts) (length times) (length freqs) (length centers) ≡ true → Adds file p s counts counts times times freqs freqs centers centers (Err Sizes)
  unfolding gather_answer
  none_left f =
      record {
        says = simp f;
        appended = λ q z. never_both z;
        kept = λ k z. record { same_counts_lem = refl; same_times = refl; same_freqs = refl; same_centers = refl };
      }

  pub no_counts : length counts ≤ p → Adds file p s counts counts times times freqs freqs centers centers (Err Sizes)
  no_counts a = none_left (full_counts p s (length counts) (length times) (length freqs) (length centers) a)

  pub no_centers : p < length counts → length centers ≤ p → Adds file p s counts counts times times freqs freqs centers centers (Err Sizes)
  no_centers a b = none_left (full_centers p s (length counts) (length times) (length freqs) (length centers) a b)

  pub no_times : p < length counts → p < length centers → length times < s → Adds file p s counts counts times times freqs freqs centers centers (Err Sizes)
  no_times a b d = none_left (full_times p s (length counts) (length times) (length freqs) (length centers) a b d)

  pub no_freqs : p < length counts → p < length centers → s ≤ length times → length freqs < s → Adds file p s counts counts times times freqs freqs centers centers (Err Sizes)
  no_freqs a b d e = none_left (full_freqs p s (length counts) (length times) (length freqs) (length centers) a b d e)

  module _ (a : p < length counts) (b : p < length centers) (d : s ≤ length times) (e : s ≤ length freqs) where
    open_room : is_full p s (length counts) (length times) (length freqs) (length centers) ≡ false
    open_room = not_full p s (length counts) (length times) (length freqs) (length centers) a b d e

    roomy : (full : Bool) → full ≡ false → {x : Result PassFile Refusal} → File.answer file (length times - s) (length freqs - s) ≡ x → set_answer x ≡ gather_answer full file (length times - s) (length freqs - s)
    unfolding gather_answer
    roomy true h k = absurd (true≢false h)
    roomy false h k = ap set_answer (sym k)

    -- a refused file leaves the parts as they were, and so the arrays
    pub refused_file : {r : Result PassFile Refusal} {t : List ℤ} {f : List Float} {k l : Refusal} → Reads file (part s times) t (part s freqs) f r → r ≡ Err k → l ≡ roomless k
        → Adds file p s counts counts times (back s times t) freqs (back s freqs f) centers centers (Err l)
    refused_file {r = r} {t = t} {f = f} {k = k} g x y =
        let n : t ≡ part s times = g.put_times ∙ ap (λ (v : Result PassFile Refusal). written v (sets (part s times) 0 (times_of (lines 0 file))) (part s times)) x in
        let m : f ≡ part s freqs = g.put_freqs ∙ ap (λ (v : Result PassFile Refusal). written v (sets (part s freqs) 0 (freqs_of (lines 0 file))) (part s freqs)) x in
        let z : Err (roomless k) ≡ gather_answer (is_full p s (length counts) (length times) (length freqs) (length centers)) file (length times - s) (length freqs - s) = roomy (is_full p s (length counts) (length times) (length freqs) (length centers)) open_room (sym (whole file s times freqs g) ∙ x) in
        record {
          says = ap (λ (v : Refusal). Err v) y ∙ z;
          appended = λ q w. never_both w;
          kept = λ j w. record { same_counts_lem = refl; same_times = put_back s (length times - s) times t n; same_freqs = put_back s (length freqs - s) freqs f m; same_centers = refl };
        }

    pub accepted_file : {r : Result PassFile Refusal} {t : List ℤ} {f : List Float} {q : PassFile} → Reads file (part s times) t (part s freqs) f r → r ≡ Ok q
        → Adds file p s counts (set counts p q.count) times (back s times t) freqs (back s freqs f) centers (set centers p q.center_freq) (Ok q)
    accepted_file {r = r} {t = t} {f = f} {q = q} g x =
        let y = accepted file s times freqs g x in
        let i = y.1 in
        let n = counted file (sym y.0) in
        let u : t ≡ sets (part s times) 0 (times_of (lines 0 file)) = g.put_times ∙ ap (λ (v : Result PassFile Refusal). written v (sets (part s times) 0 (times_of (lines 0 file))) (part s times)) x in
        let w : f ≡ sets (part s freqs) 0 (freqs_of (lines 0 file)) = g.put_freqs ∙ ap (λ (v : Result PassFile Refusal). written v (sets (part s freqs) 0 (freqs_of (lines 0 file))) (part s freqs)) x in
        record {
          says = roomy (is_full p s (length counts) (length times) (length freqs) (length centers)) open_room (sym (whole file s times freqs g) ∙ x);
          appended = λ v z. subst (λ (o : PassFile). Appended file o p s counts (set counts p q.count) times (back s times t) freqs (back s freqs f) centers (set centers p q.center_freq)) (same_ok z)
              (record {
                counted = put_one p counts q.count a;
                centred = put_one p centers q.center_freq b;
                timed = put_new s (length times - s) q.count times t (times_of (lines 0 file)) d refl n.times i.times u;
                heard = put_new s (length freqs - s) q.count freqs f (freqs_of (lines 0 file)) e refl n.freqs i.freqs w;
                counts_room = a;
                centers_room = b;
                times_room = omega (arith, d, i.times);
                freqs_room = omega (arith, e, i.freqs);
              });
          kept = λ k z. never_both (sym z);
        }

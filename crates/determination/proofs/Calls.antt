-- The answer of each way through the calls. Assumes nothing.
use mathlib.Core.Path.{◌≡◌, refl, sym, ap, ◌∙◌, subst}
use mathlib.Core.Bool.{Bool, true, false, ◌&&◌}
use mathlib.Core.List.{List}
use Prim.Native.Nat.{ℕ, ◌+◌, ◌≤◌}
use native.Mathlib.Omega.{arith}
use lib.Dec.{leb, eqb}
use lib.IntN.{ℤ}
use lib.ListN.{length, take, drop}
use lib.Seq.{sets, sets-eq, length-sets, take_at}
use lib.Ieee.{Float}
use borrow.Author.Tests.{le-leb, le-ltb}
use Rattle.std.proofs.Common.{Some, None, Result, Ok, Err}
use Rattle.laws.proofs.Tests.{and_true}
use Rattle.frame.specs.declared.Vec3.{Vec3}
use Rattle.refusal.specs.Refusals.{answer}
use Rattle.refusal.specs.declared.Refusal.{Refusal}
use Rattle.refusal.specs.declared.Refusal.TheVariants.{Sizes}
use Rattle.refusal.proofs.Lists as answers
use Rattle.moment.specs.Sample.{times_in_range}
use Rattle.stored.specs.Sets.{passes_in, counts_in, samples_in, times_in, freqs_in, set_in, sized_right, load_refusal, loaded, Loads}
use Rattle.stored.specs.declared.Loaded.{Loaded}
use Rattle.stored.proofs.Chunks.{length_taken}
use Rattle.stored.proofs.Whole.{fits}
use Rattle.fit.specs.Answer.{Arguments, arguments, Outputs, Fits}
use Rattle.fit.specs.declared.Fit.{Fit}
use Rattle.tle.specs.Answer.{Formats}
use Rattle.determination.specs.Demand.{Accepted, Demand}
use Rattle.determination.specs.Calls.{Determines, bytes_refusal, DeterminesStored}
use Rattle.determination.specs.declared.Determination.{Determination}
use Rattle.determination.proofs.Demand.{accepted, demand}

-- ---- fit and lines

module _ {x : Arguments} {w w' : Outputs} {scratch scratch' : List Float} (name text : List ℕ) where
  pub fit_refused : {k : Refusal} {q : Result Fit Refusal} → q ≡ Err k → Fits x w w' scratch scratch' q → Determines x w w' scratch scratch' name text text (Err k)
  fit_refused e f =
      record {
        fits = rw e at f;
        formats = λ d e. absurd cc;
        unwritten = λ _ _. refl;
        accepted = λ d e. absurd cc;
        demand = λ d e. absurd cc;
      }

  pub fit_accepted : {text' : List ℕ} {r : Fit} {q : Result Fit Refusal} {c : Result ℕ Refusal} → q ≡ Ok r → Fits x w w' scratch scratch' q → Formats name r.orbit text text' c
      → Determines x w w' scratch scratch' name text text' (Ok (record { fit = r; lines = c }))
  fit_accepted {text'} {r} {q} {c} is h g =
      let made : Determination = record { fit = r; lines = c } in
      let f : Fits x w w' scratch scratch' (Ok r) = rw is at h in
      record {
        fits = f;
        formats = λ d e. let s : made ≡ d = cc in subst (λ (m : Determination). Formats name m.fit.orbit text text' m.lines) s g;
        unwritten = λ k e. absurd cc;
        accepted = λ d e. let s : made ≡ d = cc in subst (λ (m : Determination). Accepted x w w' m.fit) s (accepted x w w' scratch scratch' r f);
        demand = λ d e. let s : made ≡ d = cc in
            subst (λ (m : Determination). (n : ℕ) → m.lines ≡ Ok n → Demand x name w w' m.fit text') s
            (λ n l. demand x w w' scratch scratch' r f name text text' n (rw l at g));
      }

-- ---- the set that was loaded

-- where there is a centre for each pass: arrays of 16 and 4,096 places hold every set of the right size
centred : (b : List ℕ) (centers : List Float) → eqb (passes_in b) (length centers) ≡ true → load_refusal b 16 4096 4096 ≡ bytes_refusal b centers
unfolding load_refusal bytes_refusal
centred b centers c = go (sized_right b) (times_in_range (times_in b)) refl refl
  where
    go : (t u : Bool) → sized_right b ≡ t → times_in_range (times_in b) ≡ u → load_refusal b 16 4096 4096 ≡ bytes_refusal b centers
    go false u e h = simp e
    go true false e h = simp (e, c, h)
    go true true e h = let f = fits b e in simp (e, c, h, le-ltb 16 (passes_in b) f.passes, le-ltb 4096 (samples_in b) f.samples)

-- otherwise 5, whatever else is wrong
pub uncentred : (b : List ℕ) (centers : List Float) → (leb 4 (length b) && eqb (passes_in b) (length centers)) ≡ false → bytes_refusal b centers ≡ Some Sizes
unfolding bytes_refusal
uncentred b centers h = go (sized_right b) refl
  where
    go : (t : Bool) → sized_right b ≡ t → bytes_refusal b centers ≡ Some Sizes
    go false e = rw e
    go true e =
        let f = fits b e in
        let n : eqb (passes_in b) (length centers) ≡ false = rw (le-leb 4 (length b) (omega (arith, f.size))) at h in
        rw (e, n)

-- what was put into the first places is all that is lent
front : {A : Type 0} (old vs : List A) (n : ℕ) → length vs ≡ n → n ≤ length old → take n (sets old 0 vs) ≡ vs
front old vs n e h = ap (take n) (sets-eq vs old 0 (omega arith)) ∙ take_at vs (drop (0 + length vs) old) n e

-- the arrays after a load without refusal: the set in their first places
pub record Held (b counts : List ℕ) (times : List ℤ) (freqs centers : List Float) (s : Loaded) : Type 0 where
  pub none : bytes_refusal b centers ≡ None
  pub counts_room : s.passes ≤ length counts
  pub times_room : s.samples ≤ length times
  pub freqs_room : s.samples ≤ length freqs
  pub counts_are : take s.passes counts ≡ counts_in b
  pub times_are : take s.samples times ≡ times_in b
  pub freqs_are : take s.samples freqs ≡ freqs_in b

sized : (b : List ℕ) (centers : List Float) → bytes_refusal b centers ≡ None → sized_right b ≡ true
unfolding bytes_refusal
sized b centers e = go (sized_right b) refl
  where
    go : (t : Bool) → sized_right b ≡ t → sized_right b ≡ true
    go true h = h
    go false h = absurd (let z : Some Sizes ≡ None = rw h at e in cc)

module _ {b counts counts' : List ℕ} {times times' : List ℤ} {freqs freqs' : List Float} {r : Result Loaded Refusal} (l : Loads b counts counts' times times' freqs freqs' r)
    (lc : length counts ≡ 16) (lt : length times ≡ 4096) (lf : length freqs ≡ 4096) (centers : List Float) (begun : (leb 4 (length b) && eqb (passes_in b) (length centers)) ≡ true) where
  says : r ≡ answer (bytes_refusal b centers) (set_in b)
  unfolding loaded
  says =
      let e : r ≡ answer (load_refusal b 16 4096 4096) (set_in b) = rw (lc, lt, lf) at l.says in
      rw (centred b centers (and_true (leb 4 (length b)) (eqb (passes_in b) (length centers)) begun).1) at e

  pub told : {x : Refusal} → r ≡ Err x → bytes_refusal b centers ≡ Some x
  told e = answers.refused _ _ _ (sym e ∙ says)

  pub held : {s : Loaded} → r ≡ Ok s → Held b counts' times' freqs' centers s
  held {s} z =
      let w = answers.accepted _ _ _ (sym z ∙ says) in
      let f = fits b (sized b centers w.0) in
      let p : s.passes ≡ passes_in b = ap (λ (x : Loaded). x.passes) (sym w.1) in
      let q : s.samples ≡ samples_in b = ap (λ (x : Loaded). x.samples) (sym w.1) in
      let cs : counts' ≡ sets counts 0 (counts_in b) = rw z at l.put_counts in
      let ts : times' ≡ sets times 0 (times_in b) = rw z at l.put_times in
      let fs : freqs' ≡ sets freqs 0 (freqs_in b) = rw z at l.put_freqs in
      record {
        none = w.0;
        counts_room = rw (p, cs, length-sets) (omega (arith, f.passes, lc));
        times_room = rw (q, ts, length-sets) (omega (arith, f.samples, lt));
        freqs_room = rw (q, fs, length-sets) (omega (arith, f.samples, lf));
        counts_are = rw (p, cs) (front counts (counts_in b) (passes_in b) (length_taken 4 (λ n. n) (passes_in b) _) (omega (arith, f.passes, lc)));
        times_are = rw (q, ts) (front times (times_in b) (samples_in b) (length_taken 8 _ (samples_in b) _) (omega (arith, f.samples, lt)));
        freqs_are = rw (q, fs) (front freqs (freqs_in b) (samples_in b) (length_taken 8 _ (samples_in b) _) (omega (arith, f.samples, lf)));
      }

-- ---- from stored bytes
pub bytes_refused : {b : List ℕ} {centers : List Float} {w : Outputs} {scratch : List Float} {name text : List ℕ} (rec : Vec3) (a i : Float) {x : Refusal} → bytes_refusal b centers ≡ Some x
    → DeterminesStored b centers rec a i w w scratch scratch name text text (Err x)
bytes_refused rec a i {x} e =
    record {
      refused = λ k h. let s : Some x ≡ Some k = sym e ∙ h in record { answered = cc; same_outputs = refl; same_scratch = refl; same_text = refl };
      determined = λ n. absurd (let s : Some x ≡ None = sym e ∙ n in cc);
    }

pub bytes_fitted : {b counts : List ℕ} {times : List ℤ} {freqs centers : List Float} {rec : Vec3} {a i : Float} {w w' : Outputs} {scratch scratch' : List Float} {name text text' : List ℕ} {d : Result Determination Refusal} {s : Loaded} → Held b counts times freqs centers s
    → Determines (arguments (take s.passes counts) (take s.samples times) (take s.samples freqs) centers rec a i) w w' scratch scratch' name text text' d
    → DeterminesStored b centers rec a i w w' scratch scratch' name text text' d
bytes_fitted h g =
    record {
      refused = λ k e. absurd (let s : None ≡ Some k = sym h.none ∙ e in cc);
      determined = λ _. rw (h.counts_are, h.times_are, h.freqs_are) at g;
    }

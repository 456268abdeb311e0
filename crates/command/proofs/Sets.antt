-- The set that a file more makes, from what `add_file` and `keep_name` promise; and files gathered one by one. Assumes nothing.
use Rattle.std.proofs.Common.{◌≡◌, ℕ, zero, suc, ◌+◌, ◌-◌, ◌<◌, ◌≤◌, Bool, true, false, cond, not, ◌&&◌, List, [], ◌∷◌, ◌++◌, map, length, take, drop, ℤ, sym, refl, ap, ◌∙◌, subst, append_assoc, append-nil, true≢false, zero-le, suc-add, zero-add, arith, length-append, length-take-le, drop_at, Result, Ok, Err, Some, None}
use Rattle.std.proofs.Common.{Option as Maybe}
use Rattle.std.specs.Prelude.{is_ok, is_some as is_there}
use mathlib.Core.List.{flat_map, map-append}
use mathlib.Core.Option.{Option, none, some}
use lib.Dec.{leb}
use lib.Ieee.{Float}
use lib.Seq.{take-nil}
use Rattle.refusal.specs.declared.Refusal.{Refusal}
use Rattle.refusal.specs.Refusals.{status_of}
use Rattle.pass_set.specs.PassSet.{total}
use Rattle.pass_set.proofs.Laws.{total_append}
use Rattle.ordering.specs.Sort.{sort_on, pick, pick_more}
use Rattle.ordering.specs.Order.{first_key}
use Rattle.ordering.proofs.Picks.{pick_last}
use Rattle.passes.specs.File.{opening}
use Rattle.passes.specs.File as File
use Rattle.passes.specs.declared.file.PassFile.{PassFile}
use Rattle.passes.proofs.Files.{never_both, same_ok}
use Rattle.command.specs.Gather.{accepted_or, said, count_in, center_in, times_in, freqs_in, key_in, has_name, namer, name_from, key_from, unknown, arrays, Arrays, First, Holds, set_answer, gather_answer, Adds, no_later, is_new, Keeps, Opens, Extends, given_set, Gathers, Continues}
use Rattle.command.specs.declared.gather.Name.{Name}
use Rattle.command.specs.declared.gather.Gathered.{Gathered}
use Rattle.command.proofs.Gathers.{given}

-- ---- definitions on one file more

flat_more : {A B : Type 0} (f : A → List B) (xs : List A) (x : A) → flat_map f (xs ++ x ∷ []) ≡ flat_map f xs ++ f x
unfolding flat_map
flat_more f [] x = append-nil (f x)
flat_more f (y ∷ ys) x = ap (f y ++◌) (flat_more f ys x) ∙ sym (append_assoc (f y) (flat_map f ys) (f x))

-- what is made of the file that is picked of one file more
from_test : {B : Type 0} (g : Option (List ℕ) → B) (o : Option (List ℕ)) (file : List ℕ)
    → cond (has_name file && not (no_later (key_from o) (key_in file))) (g (some file)) (g o) ≡ g (pick_more key_in has_name o file)
from_test g none file = by (has_name file)
  where
    by : (b : Bool) → cond (b && true) (g (some file)) (g none) ≡ g (cond b (some file) none)
    by true = refl
    by false = refl
from_test g (some f) file = by (has_name file) (leb (key_in f) (key_in file))
  where
    by : (b c : Bool) → cond (b && not c) (g (some file)) (g (some f)) ≡ g (cond b (cond c (some f) (some file)) (some f))
    by true true = refl
    by true false = refl
    by false c = refl

module _ (files : List (List ℕ)) (file : List ℕ) where
  namer_more : namer (files ++ file ∷ []) ≡ pick_more key_in has_name (namer files) file
  unfolding namer
  namer_more = pick_last key_in has_name files file

  from_more : {B : Type 0} (g : Option (List ℕ) → B) → cond (has_name file && not (no_later (key_from (namer files)) (key_in file))) (g (some file)) (g (namer files)) ≡ g (namer (files ++ file ∷ []))
  from_more g = from_test g (namer files) file ∙ ap g (sym namer_more)

-- what is kept, said of the same name and file
new_said : (name : Name) {q q' : PassFile} {key key' : ℕ} {k : Maybe ℕ} → name.key ≡ k → q ≡ q' → key ≡ key' → is_new name q key ≡ (is_there q'.name && not (no_later k key'))
unfolding is_new
new_said name f g h = rw (f, g, h) refl

cond_said : {B : Type 0} {b b' : Bool} {x x' y y' : B} → b ≡ b' → x ≡ x' → y ≡ y' → cond b x y ≡ cond b' x' y'
cond_said e f g = rw (e, f, g)

drop_take : {A : Type 0} (s n : ℕ) (l : List A) → drop s (take (s + n) l) ≡ take n (drop s l)
drop_take zero n l = rw zero-add
drop_take (suc s) n [] = rw (suc-add, take-nil)
drop_take (suc s) n (x ∷ l) = rw suc-add (drop_take s n l)

-- the samples of a file behind s others
behind : (s n : ℕ) (times times' : List ℤ) (file : List ℕ) → s ≤ length times → take (s + n) times' ≡ take s times ++ times_in file → take (s + n - s) (drop s times') ≡ times_in file
behind s n times times' file h e =
    let m : s + n - s ≡ n = omega arith in
    ap (λ (k : ℕ). take k (drop s times')) m ∙ sym (drop_take s n times') ∙ ap (drop s) e ∙ drop_at (take s times) (times_in file) s (length-take-le s times h)

more_first : {A : Type 0} {n m : ℕ} {xs xs' old : List A} (new all : List A) → First n xs old → take m xs' ≡ take n xs ++ new → m ≤ length xs' → all ≡ old ++ new → First m xs' all
more_first new all f e h a = record { room = h; is = e ∙ ap (λ l. l ++ new) f.is ∙ sym a }

one_more : {t s n k : ℕ} → t ≡ s → k ≡ n → t + total (n ∷ []) ≡ s + k
unfolding total
one_more e f = omega (arith, e, f)

-- ---- `add`

module _ (file : List ℕ) (g : Gathered) (counts counts' : List ℕ) (times times' : List ℤ) (freqs freqs' centers centers' : List Float) (name : List ℕ) {o : Result PassFile Refusal}
    (h : Adds file g.passes g.samples counts counts' times times' freqs freqs' centers centers' o) where
  pub add_none : {k : Refusal} → o ≡ Err k → {r : Result Gathered Refusal} → r ≡ Err k → Extends file g (arrays counts times freqs centers name) (arrays counts' times' freqs' centers' name) r
  add_none {k = k} z {r} e =
      let s = h.kept k z in
      record {
        says = ap status_of e ∙ ap status_of (sym z ∙ h.says);
        kept = λ j w. rw (s.same_counts_lem, s.same_times, s.same_freqs, s.same_centers) refl;
        appended = λ q w. never_both (sym e ∙ w);
      }

  module _ {q : PassFile} (z : o ≡ Ok q) where
    pub pass_room : g.passes < length counts
    pass_room = (h.appended q z).counts_room

    pub sample_room : g.samples + q.count ≤ length freqs
    sample_room = (h.appended q z).freqs_room

    pub times_room : g.samples + q.count ≤ length times
    times_room = (h.appended q z).times_room

    -- it is what the file says
    said_of : (full : Bool) (nt nf : ℕ) → gather_answer full file nt nf ≡ Ok q → q ≡ said file
    unfolding gather_answer
    said_of true nt nf e = never_both e
    said_of false nt nf e = of (File.answer file nt nf) refl e
      where
        of : (x : Result PassFile Refusal) → File.answer file nt nf ≡ x → set_answer x ≡ Ok q → q ≡ said file
        of (Ok p) s f = sym (ap (accepted_or opening) (given file nt nf (s ∙ f)).0)
        of (Err k) s f = never_both f

    read : q ≡ said file
    read = said_of _ _ _ (sym h.says ∙ z)

    pub add_more : (name' : List ℕ) {n : Name} {key : ℕ} → length counts' ≡ length counts → length times' ≡ length times → length freqs' ≡ length freqs → length centers' ≡ length centers → length name' ≡ length name
        → key ≡ first_key (take (g.samples + q.count - g.samples) (drop g.samples times'))
        → Keeps g.name file q key name name' n
        → Extends file g (arrays counts times freqs centers name) (arrays counts' times' freqs' centers' name') (Ok (record { passes = g.passes + 1; samples = g.samples + q.count; name = n }))
    add_more name' {n} {key} lc lt lf lm ln w k =
        let x = h.appended q z in
        let size : q.count ≡ count_in file = ap (λ (r : PassFile). r.count) read in
        let center : q.center_freq ≡ center_in file = ap (λ (r : PassFile). r.center_freq) read in
        let since : key ≡ key_in file = w ∙ ap first_key (behind g.samples q.count times times' file (omega (arith, times_room)) x.timed) in
        record {
          says = ap status_of (sym z ∙ h.says);
          kept = λ j e. never_both (sym e);
          appended = λ t v files a. subst (λ (u : Gathered). Holds (files ++ file ∷ []) u (arrays counts' times' freqs' centers' name')) (same_ok v) (record {
            passes = omega (arith, a.passes, length-append files (file ∷ []));
            counted = more_first (q.count ∷ []) _ a.counted x.counted (omega (arith, x.counts_room, lc)) (map-append count_in files (file ∷ []) ∙ ap (λ (m : ℕ). map count_in files ++ (m ∷ [])) (sym size));
            centred = more_first (q.center_freq ∷ []) _ a.centred x.centred (omega (arith, x.centers_room, lm)) (map-append center_in files (file ∷ []) ∙ ap (λ (m : Float). map center_in files ++ (m ∷ [])) (sym center));
            timed = more_first (times_in file) _ a.timed x.timed (omega (arith, x.times_room, lt)) (flat_more times_in files file);
            heard = more_first (freqs_in file) _ a.heard x.heard (omega (arith, x.freqs_room, lf)) (flat_more freqs_in files file);
            sized = ap total (map-append count_in files (file ∷ [])) ∙ total_append (map count_in files) (count_in file ∷ []) ∙ one_more a.sized size;
            since = k.since ∙ cond_said (new_said g.name a.since read since) (ap (λ (m : ℕ). Some m) since) a.since ∙ from_more files file key_from;
            named = record {
              room = k.room a.named.room;
              is = k.is
                  ∙ cond_said (new_said g.name a.since read since) (ap (λ (r : PassFile). take (length name) (File.name_of file r)) read) a.named.is
                  ∙ from_more files file (λ o. take (length name) (name_from o))
                  ∙ ap (λ (m : ℕ). take m (name_from (namer (files ++ file ∷ [])))) (sym ln);
            };
          });
        }

-- ---- before the first file

pub opened : (name name' : List ℕ) {n : ℕ} → length name' ≡ length name → First n name' (take (length name) unknown)
    → Opens name' (record { passes = 0; samples = 0; name = record { size = n; key = None } })
unfolding namer pick sort_on flat_map total
opened name name' e h =
    record {
      holds = λ counts times freqs centers. record {
        passes = refl;
        counted = record { room = zero-le; is = refl };
        centred = record { room = zero-le; is = refl };
        timed = record { room = zero-le; is = refl };
        heard = record { room = zero-le; is = refl };
        sized = refl;
        since = refl;
        named = record { room = h.room; is = h.is ∙ ap (λ (m : ℕ). take m unknown) (sym e) };
      };
    }

-- ---- one file after the other

module _ (g : Gathered) (a : Arrays) where
  -- a file that failed before it was added
  pub stops : Continues g a a (Err g)
  stops = record { next = λ n h. record { files = h.files; holds = h.holds; most = omega (arith, h.most); all = λ z. absurd (true≢false (sym z)) } }

  module _ {file : List ℕ} {a' : Arrays} {r : Result Gathered Refusal} (h : Extends file g a a' r) where
    pub goes_on : {q : Gathered} → r ≡ Ok q → Continues g a a' (Ok q)
    goes_on {q = q} e =
        record {
          next = λ n y. record {
            files = y.files ++ file ∷ [];
            holds = h.appended q e y.files y.holds;
            most = omega (arith, y.most, length-append y.files (file ∷ []));
            all = λ _. omega (arith, y.all refl, length-append y.files (file ∷ []));
          };
        }

    pub ends : {k : Refusal} → r ≡ Err k → Continues g a a' (Err g)
    ends {k = k} e = subst (λ (b : Arrays). Continues g a b (Err g)) (sym (h.kept k e)) stops

-- ---- all files

pub none_yet : {g : Gathered} {name : List ℕ} (counts : List ℕ) (times : List ℤ) (freqs centers : List Float) → Opens name g → Gathers 0 (Ok g) (arrays counts times freqs centers name)
none_yet counts times freqs centers h = record { files = []; holds = h.holds counts times freqs centers; most = zero-le; all = λ _. refl }

pub gathered : {n : ℕ} {r : Result Gathered Gathered} {g : Gathered} {a : Arrays} → r ≡ Ok g → Gathers n r a → Gathers n (Ok g) a
gathered {n = n} {a = a} e y = subst (λ (o : Result Gathered Gathered). Gathers n o a) e y

pub ended_early : {m n : ℕ} {r o : Result Gathered Gathered} {g : Gathered} {a : Arrays} → Gathers m r a → m ≤ n → r ≡ Err g → o ≡ Err g → Gathers n o a
ended_early {a = a} y h e f =
    record {
      files = y.files;
      holds = subst (λ (x : Result Gathered Gathered). Holds y.files (given_set x) a) (e ∙ sym f) y.holds;
      most = omega (arith, h, y.most);
      all = λ z. absurd (true≢false (sym z ∙ ap is_ok f));
    }

-- the set, where no file failed
pub held : {n : ℕ} {r : Result Gathered Gathered} {g : Gathered} {a : Arrays} (y : Gathers n r a) → r ≡ Ok g → Holds y.files g a
held {a = a} y e = subst (λ (x : Result Gathered Gathered). Holds y.files (given_set x) a) e y.holds

pub all_files : {m n : ℕ} {r : Result Gathered Gathered} {a : Arrays} → Gathers m r a → m ≤ n → n ≤ m → Gathers n r a
all_files y h k = record { files = y.files; holds = y.holds; most = omega (arith, h, y.most); all = λ z. omega (arith, h, k, y.all z) }

-- The tests of `load` and `store`, their answers and what they write. Assumes nothing.
use mathlib.Core.Path.{◌≡◌, refl, sym, ap, ◌∙◌, subst}
use mathlib.Core.Bool.{Bool, true, false, ◌&&◌, cond}
use mathlib.Core.List.{List, ◌++◌, map}
use Prim.Native.Nat.{ℕ, ◌+◌, ◌-◌, ◌*◌, ◌/◌, ◌≤◌, ◌<◌}
use native.Mathlib.Nat.{zero-add}
use mathlib.Core.Logic.{◌⊎◌, inl, inr}
use native.Mathlib.Omega.{arith}
use lib.Dec.{leb, eqb, lit<}
use lib.IntN.{ℤ}
use lib.Ieee.{Float, binary64, of_bits, to_bits}
use lib.ListN.{length, take, drop}
use lib.Seq.{sets, length-sets}
use borrow.Author.Tests.{ne_eqb, eq-eqb, le-leb, lt-leb, lt-ltb, le-ltb, leb-true, eqb-true}
use borrow.Rule.Slice.PartMut.{put_mid}
use Rattle.std.specs.Prelude.{Some, None, Ok, Err}
use Rattle.std.specs.List.{list_all}
use Rattle.std.specs.Simd.{first_chunks}
use Rattle.laws.proofs.Tests.{and_true}
use Rattle.refusal.specs.declared.Refusal.TheVariants.{MomentRange, Sizes, ShortMemory}
use Rattle.moment.specs.Sample.{time_in_range, times_in_range}
use Rattle.pass_set.specs.PassSet.{total, sizes_agree}
use Rattle.pass_set.proofs.Laws.{sizes}
use Rattle.stored.specs.Numbers.{little_endian, low_bytes, time_bits, time_of, numbers_in, written}
use Rattle.stored.specs.Sets.{passes_in, samples_in, times_in, set_in, sizes_in, sized_right, load_refusal, loaded, Loads, bytes_of, size_of, store_refusal, stored, Stores}
use Rattle.stored.specs.declared.Loaded.{Loaded}
use Rattle.stored.proofs.Words.{sets_append}
use Rattle.stored.proofs.Chunks.{length_bytes, length_written, part_numbers, all_times, put_part, put_span, length_taken}

-- ---- the sizes in the bytes

no_2 : (a b : Bool) → (a && false) ≡ false
no_2 true b = refl
no_2 false b = refl

module _ (b : List ℕ) where
  pub short : length b < 4 + 4 * passes_in b → false ≡ sized_right b
  unfolding sized_right
  short h =
      let e : eqb (length b) (4 + 4 * passes_in b + 16 * samples_in b) ≡ false = ne_eqb (length b) (4 + 4 * passes_in b + 16 * samples_in b) (λ (q : length b ≡ 4 + 4 * passes_in b + 16 * samples_in b). omega arith) in
      sym (ap (λ (x : Bool). leb (passes_in b) 16 && (leb (samples_in b) 4096 && x)) e ∙ ap (λ (x : Bool). leb (passes_in b) 16 && x) (no_2 (leb (samples_in b) 4096) false) ∙ no_2 (leb (passes_in b) 16) false)

  pub many_passes : 16 < passes_in b → false ≡ sized_right b
  unfolding sized_right
  many_passes h = simp (lt-leb (passes_in b) 16 h)

  pub many_samples : 4096 < samples_in b → false ≡ sized_right b
  unfolding sized_right
  many_samples h = sym (ap (λ (x : Bool). leb (passes_in b) 16 && (x && eqb (length b) (4 + 4 * passes_in b + 16 * samples_in b))) (lt-leb (samples_in b) 4096 h) ∙ no_2 (leb (passes_in b) 16) false)

  pub by_length : passes_in b ≤ 16 → samples_in b ≤ 4096 → eqb (length b) (4 + 4 * passes_in b + 16 * samples_in b) ≡ sized_right b
  unfolding sized_right
  by_length h g = simp (le-leb (passes_in b) 16 h, le-leb (samples_in b) 4096 g)

  pub whole : passes_in b ≤ 16 → samples_in b ≤ 4096 → length b ≡ 4 + 4 * passes_in b + 16 * samples_in b → true ≡ sized_right b
  whole h g e = sym (eq-eqb (length b) (4 + 4 * passes_in b + 16 * samples_in b) e) ∙ by_length h g

  pub other_length : passes_in b ≤ 16 → samples_in b ≤ 4096 → (length b ≡ 4 + 4 * passes_in b + 16 * samples_in b → ⊥) → false ≡ sized_right b
  other_length h g n = sym (ne_eqb (length b) (4 + 4 * passes_in b + 16 * samples_in b) n) ∙ by_length h g

  pub none : false ≡ sized_right b → None ≡ sizes_in b
  unfolding sizes_in
  none e = ap (λ (x : Bool). cond x (Some (set_in b)) None) e

  pub some : true ≡ sized_right b → Some (set_in b) ≡ sizes_in b
  unfolding sizes_in
  some e = ap (λ (x : Bool). cond x (Some (set_in b)) None) e

pub record Fits (b : List ℕ) : Type 0 where
  pub passes : passes_in b ≤ 16
  pub samples : samples_in b ≤ 4096
  pub size : length b ≡ 4 + 4 * passes_in b + 16 * samples_in b

pub fits : (b : List ℕ) → sized_right b ≡ true → Fits b
unfolding sized_right
fits b e =
    let x = and_true (leb (passes_in b) 16) (leb (samples_in b) 4096 && eqb (length b) (4 + 4 * passes_in b + 16 * samples_in b)) e in
    let y = and_true (leb (samples_in b) 4096) (eqb (length b) (4 + 4 * passes_in b + 16 * samples_in b)) x.1 in
    record { passes = leb-true _ _ x.0; samples = leb-true _ _ y.0; size = eqb-true _ _ y.1 }

-- the code's numbers of passes and samples
pub record Counted (b : List ℕ) (p s : ℕ) : Type 0 where
  pub passes : p ≡ passes_in b
  pub samples : s ≡ samples_in b

pub counted : (b : List ℕ) {p s : ℕ} {cs : List (List ℕ)} → p ≡ passes_in b → 4 + 4 * p ≤ length b
    → cs ≡ first_chunks 4 (length (take (4 + 4 * p - 4) (drop 4 b)) / 4) (take (4 + 4 * p - 4) (drop 4 b)) → s ≡ total (map (little_endian 4) cs) → Counted b p s
counted b {p = p} e h g f =
    record { passes = e; samples = f ∙ ap total (part_numbers 4 (λ v. v) 4 (4 + 4 * p) p b (lit< tt) refl h g) ∙ ap (λ (n : ℕ). total (numbers_in 4 (λ v. v) n (drop 4 b))) e }

-- ---- the answer of `load`

-- what its first test says
pub record Known (b : List ℕ) (s : Loaded) : Type 0 where
  pub sized : sized_right b ≡ true
  pub is : s ≡ set_in b

pub known : (b : List ℕ) {s : Loaded} → sizes_in b ≡ Some s → Known b s
unfolding sizes_in
known b {s} e = go (sized_right b) refl e
  where
    go : (t : Bool) → sized_right b ≡ t → cond t (Some (set_in b)) None ≡ Some s → Known b s
    go true h q = record { sized = h; is = cc }
    go false h q = absurd (cc)

pub unsized : (b : List ℕ) → sizes_in b ≡ None → sized_right b ≡ false
unfolding sizes_in
unsized b e = go (sized_right b) refl e
  where
    go : (t : Bool) → sized_right b ≡ t → cond t (Some (set_in b)) None ≡ None → sized_right b ≡ false
    go true h q = absurd (cc)
    go false h q = h

-- its second test, of the times' bytes
pub tested : {b : List ℕ} {s : Loaded} {r : Bool} {cs : List (List ℕ)} → Known b s → 4 + 4 * s.passes + 8 * s.samples ≤ length b
    → cs ≡ first_chunks 8 (length (take (4 + 4 * s.passes + 8 * s.samples - (4 + 4 * s.passes)) (drop (4 + 4 * s.passes) b)) / 8) (take (4 + 4 * s.passes + 8 * s.samples - (4 + 4 * s.passes)) (drop (4 + 4 * s.passes) b))
    → r ≡ list_all (λ c. time_in_range (time_of (little_endian 8 c))) cs → r ≡ times_in_range (times_in b)
tested {b = b} {s = s} {cs = cs} k h g e =
    e ∙ sym (all_times cs)
    ∙ ap times_in_range (part_numbers 8 time_of (4 + 4 * s.passes) (4 + 4 * s.passes + 8 * s.samples) s.samples b (lit< tt) refl h g ∙ ap (λ (t : Loaded). numbers_in 8 time_of t.samples (drop (4 + 4 * t.passes) b)) k.is)

-- numbers in the first places
placed : {A : Type 0} (out vs : List A) (n : ℕ) → length vs ≡ n → n ≤ length out → vs ++ drop n out ≡ sets out 0 vs
placed out vs n e h = put_part vs out 0 n (zero-add (length vs) ∙ e) h

module _ (b counts : List ℕ) (times : List ℤ) (freqs : List Float) where
  pub load_sizes : sized_right b ≡ false → Loads b counts counts times times freqs freqs (Err Sizes)
  unfolding loaded load_refusal
  load_sizes e = record { says = simp e; put_counts = refl; put_times = refl; put_freqs = refl }

  module _ {s : Loaded} (k : Known b s) where
    pub load_range : times_in_range (times_in b) ≡ false → Loads b counts counts times times freqs freqs (Err MomentRange)
    unfolding loaded load_refusal
    load_range f = record { says = simp (k.sized, f); put_counts = refl; put_times = refl; put_freqs = refl }

    module _ (f : times_in_range (times_in b) ≡ true) where
      short_counts : length counts < passes_in b → Err ShortMemory ≡ loaded b (length counts) (length times) (length freqs)
      unfolding loaded load_refusal
      short_counts h = simp (k.sized, f, lt-ltb (length counts) (passes_in b) h)

      short_times : passes_in b ≤ length counts → length times < samples_in b → Err ShortMemory ≡ loaded b (length counts) (length times) (length freqs)
      unfolding loaded load_refusal
      short_times h i = simp (k.sized, f, le-ltb (length counts) (passes_in b) h, lt-ltb (length times) (samples_in b) i)

      short_freqs : passes_in b ≤ length counts → samples_in b ≤ length times → length freqs < samples_in b → Err ShortMemory ≡ loaded b (length counts) (length times) (length freqs)
      unfolding loaded load_refusal
      short_freqs h i l = simp (k.sized, f, le-ltb (length counts) (passes_in b) h, le-ltb (length times) (samples_in b) i, lt-ltb (length freqs) (samples_in b) l)

      given : passes_in b ≤ length counts → samples_in b ≤ length times → samples_in b ≤ length freqs → Ok (set_in b) ≡ loaded b (length counts) (length times) (length freqs)
      unfolding loaded load_refusal
      given h i l = simp (k.sized, f, le-ltb (length counts) (passes_in b) h, le-ltb (length times) (samples_in b) i, le-ltb (length freqs) (samples_in b) l)

      pub load_short : (length counts < s.passes) ⊎ ((s.passes ≤ length counts) × (length times < s.samples)) ⊎ ((s.passes ≤ length counts) × (s.samples ≤ length times) × (length freqs < s.samples))
          → Loads b counts counts times times freqs freqs (Err ShortMemory)
      load_short h = record { says = go (subst (λ (t : Loaded). (length counts < t.passes) ⊎ ((t.passes ≤ length counts) × (length times < t.samples)) ⊎ ((t.passes ≤ length counts) × (t.samples ≤ length times) × (length freqs < t.samples))) k.is h); put_counts = refl; put_times = refl; put_freqs = refl }
        where
          go : (length counts < passes_in b) ⊎ ((passes_in b ≤ length counts) × (length times < samples_in b)) ⊎ ((passes_in b ≤ length counts) × (samples_in b ≤ length times) × (length freqs < samples_in b)) → Err ShortMemory ≡ loaded b (length counts) (length times) (length freqs)
          go (inl x) = short_counts x
          go (inr (inl x)) = short_times x.0 x.1
          go (inr (inr x)) = short_freqs x.0 x.1 x.2

      pub load_all : {ns : List ℕ} {ts : List ℤ} {fs : List Float} → s.passes ≤ length counts → s.samples ≤ length times → s.samples ≤ length freqs
          → ns ≡ numbers_in 4 (λ v. v) s.passes (drop 4 b) → ts ≡ numbers_in 8 time_of s.samples (drop (4 + 4 * s.passes) b)
          → fs ≡ numbers_in 8 (of_bits binary64) s.samples (drop (4 + 4 * s.passes + 8 * s.samples) b)
          → Loads b counts (ns ++ drop s.passes counts) times (ts ++ drop s.samples times) freqs (fs ++ drop s.samples freqs) (Ok s)
      load_all h i l x y z =
          let p = ap (λ (t : Loaded). t.passes) k.is in
          let q = ap (λ (t : Loaded). t.samples) k.is in
          record {
            says = ap Ok k.is ∙ given (rw (← p) h) (rw (← q) i) (rw (← q) l);
            put_counts = placed counts _ s.passes (ap length x ∙ length_taken 4 (λ v. v) s.passes _) h ∙ ap (sets counts 0) (x ∙ (λ j. numbers_in 4 (λ v. v) (p j) (drop 4 b)));
            put_times = placed times _ s.samples (ap length y ∙ length_taken 8 time_of s.samples _) i ∙ ap (sets times 0) (y ∙ (λ j. numbers_in 8 time_of (q j) (drop (4 + 4 * p j) b)));
            put_freqs = placed freqs _ s.samples (ap length z ∙ length_taken 8 (of_bits binary64) s.samples _) l ∙ ap (sets freqs 0) (z ∙ (λ j. numbers_in 8 (of_bits binary64) (q j) (drop (4 + 4 * p j + 8 * q j) b)));
          }

-- ---- the answer of `store`, and what it writes

sets_two : {A : Type 0} (xs ys l : List A) (i j : ℕ) → i + length xs ≡ j → sets (sets l i xs) j ys ≡ sets l i (xs ++ ys)
sets_two xs ys l i j e = sym (sets_append xs ys l i ∙ ap (λ (k : ℕ). sets (sets l i xs) k ys) e)

-- four parts written one behind the other
written_whole : (out hs bs cs ds : List ℕ) (n m k : ℕ) → length hs ≡ 4 → 4 + length bs ≡ n → n + length cs ≡ m → m + length ds ≡ k → k ≤ length out
    → put_mid m (k - m) (put_mid n (m - n) (put_mid 4 (n - 4) (hs ++ drop 4 out) bs) cs) ds ≡ sets out 0 (hs ++ (bs ++ (cs ++ ds)))
written_whole out hs bs cs ds n m k lh lb lc ld h =
    let o₁ = hs ++ drop 4 out in
    let o₂ = put_mid 4 (n - 4) o₁ bs in
    let o₃ = put_mid n (m - n) o₂ cs in
    let p : o₁ ≡ sets out 0 hs = put_part hs out 0 4 (ap (λ (k : ℕ). 0 + k) lh) (omega arith) in
    let l₁ : length o₁ ≡ length out = ap length p ∙ length-sets out 0 hs in
    let q : o₂ ≡ sets o₁ 4 bs = put_span 4 n o₁ bs lb (omega (arith, l₁)) in
    let l₂ : length o₂ ≡ length out = ap length q ∙ length-sets o₁ 4 bs ∙ l₁ in
    let r : o₃ ≡ sets o₂ n cs = put_span n m o₂ cs lc (omega (arith, l₂)) in
    let l₃ : length o₃ ≡ length out = ap length r ∙ length-sets o₂ n cs ∙ l₂ in
    put_span m k o₃ ds ld (omega (arith, l₃))
    ∙ ap (λ (o : List ℕ). sets o m ds) r
    ∙ sets_two cs ds o₂ n m lc
    ∙ ap (λ (o : List ℕ). sets o n (cs ++ ds)) q
    ∙ sets_two bs (cs ++ ds) o₁ 4 n lb
    ∙ ap (λ (o : List ℕ). sets o 4 (bs ++ (cs ++ ds))) p
    ∙ sets_two hs (bs ++ (cs ++ ds)) out 0 4 (ap (λ (k : ℕ). 0 + k) lh)

module _ (counts : List ℕ) (times : List ℤ) (freqs : List Float) (out : List ℕ) where
  pub store_range : times_in_range times ≡ false → Stores counts times freqs out out (Err MomentRange)
  unfolding stored store_refusal
  store_range e = record { says = simp e; put = refl }

  module _ (e : times_in_range times ≡ true) where
    pub store_sizes : sizes_agree counts (length times) (length freqs) (length counts) ≡ false → Stores counts times freqs out out (Err Sizes)
    unfolding stored store_refusal
    store_sizes f = record { says = simp (e, f); put = refl }

    module _ (f : sizes_agree counts (length times) (length freqs) (length counts) ≡ true) where
      size : 4 + 4 * length counts + 8 * length times + 8 * length freqs ≡ size_of counts times
      size = let z = (sizes f).pairs in omega arith

      pub store_short : length out < 4 + 4 * length counts + 8 * length times + 8 * length freqs → Stores counts times freqs out out (Err ShortMemory)
      unfolding stored store_refusal
      store_short h = record { says = simp (e, f, lt-ltb (length out) (size_of counts times) (rw size at h)); put = refl }

      given_store : size_of counts times ≤ length out → Ok (size_of counts times) ≡ stored counts times freqs (length out)
      unfolding stored store_refusal
      given_store h = simp (e, f, le-ltb (length out) (size_of counts times) h)

      pub store_all : {hs bs cs ds : List ℕ} → 4 + 4 * length counts + 8 * length times + 8 * length freqs ≤ length out
          → hs ≡ low_bytes 4 (length counts) → bs ≡ written 4 (λ v. v) counts → cs ≡ written 8 time_bits times → ds ≡ written 8 (to_bits binary64) freqs
          → let n = 4 + 4 * length counts in let m = n + 8 * length times in let k = m + 8 * length freqs in
          Stores counts times freqs out (put_mid m (k - m) (put_mid n (m - n) (put_mid 4 (n - 4) (hs ++ drop 4 out) bs) cs) ds) (Ok k)
      unfolding bytes_of
      store_all {hs = hs} {bs = bs} {cs = cs} {ds = ds} h p q r t =
          let n = 4 + 4 * length counts in
          let m = n + 8 * length times in
          record {
            says = ap Ok size ∙ given_store (rw (← size) h);
            put =
                written_whole out hs bs cs ds n m (m + 8 * length freqs) (ap length p ∙ length_bytes 4 _) (ap (λ (l : List ℕ). 4 + length l) q ∙ ap (λ (k : ℕ). 4 + k) (length_written 4 (λ v. v) counts))
                (ap (λ (l : List ℕ). n + length l) r ∙ ap (λ (k : ℕ). n + k) (length_written 8 time_bits times))
                (ap (λ (l : List ℕ). m + length l) t ∙ ap (λ (k : ℕ). m + k) (length_written 8 (to_bits binary64) freqs)) h
                ∙ (λ j. sets out 0 (p j ++ (q j ++ (r j ++ t j))));
          }

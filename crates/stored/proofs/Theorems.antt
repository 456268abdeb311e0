-- What is stored is loaded back, and what is loaded is stored back. Assumes nothing.
use mathlib.Core.Path.{◌≡◌, refl, sym, ap, ◌∙◌, subst}
use mathlib.Core.Bool.{Bool, true, false, not, cond}
use mathlib.Core.List.{List, [], ◌∷◌, ◌++◌, append-nil, append_assoc}
use Prim.Native.Nat.{ℕ, zero, suc, ◌+◌, ◌-◌, ◌*◌, ◌/◌, ◌%◌, ◌^◌, ◌≤◌, ◌<◌}
use native.Mathlib.Nat.{pow-suc, mul-zero, mul-suc, add_comm, zero-add, suc-add, one-le-pow}
use native.Mathlib.Omega.{arith}
use lib.Dec.{T, ltb, lit<}
use lib.IntN.{ℤ, pos, negsuc}
use lib.Ieee.{Float, binary64, fits, of_bits, to_bits}
use lib.Ieee.Bits.{of_bits-to_bits, to_bits-lt}
use lib.ListN.{length, take, drop, length-append, length-drop, take-append-drop}
use lib.Seq.{drop-drop, take-nil, take_all}
use borrow.Author.Tests.{ltb-true, ltb-false, lt-ltb, le-ltb, eq-eqb, not-true}
use Rattle.moment.specs.Sample.{time_in_range, times_in_range}
use Rattle.laws.proofs.Tests.{and_true}
use Rattle.pass_set.specs.PassSet.{total, Sizes}
use Rattle.stored.specs.Numbers.{little_endian, low_bytes, time_bits, time_of, numbers_in, written}
use Rattle.stored.specs.Sets.{passes_in, counts_in, samples_in, times_in, freqs_in, sized_right, bytes_of}
use Rattle.stored.proofs.Chunks.{length_bytes, length_written, length_taken}
use Rattle.stored.proofs.Whole.{Fits, by_length}
use Rattle.stored.proofs.Whole as whole

-- ---- one number

split : (v : ℕ) → v % 256 + 256 * (v / 256) ≡ v
split v = omega arith

pub le_bytes : (n v : ℕ) (r : List ℕ) → v < 256 ^ n → little_endian n (low_bytes n v ++ r) ≡ v
unfolding little_endian low_bytes
le_bytes zero v r h = omega (arith, h)
le_bytes (suc n) v r h = ap (λ (x : ℕ). v % 256 + 256 * x) (le_bytes n (v / 256) r (less (pow-suc 256 n))) ∙ split v
  where
    less : 256 ^ suc n ≡ 256 ^ n * 256 → v / 256 < 256 ^ n
    less e = omega arith

pub drop_bytes : (n v : ℕ) (r : List ℕ) → drop n (low_bytes n v ++ r) ≡ r
unfolding low_bytes
drop_bytes zero v r = refl
drop_bytes (suc n) v r = drop_bytes n (v / 256) r

pub record Byte (b : ℕ) : Type 0 where
  pub most : b < 256

abbrev pub All : {A : Type 0} → (A → Type 0) → List A → Type 0
All P [] = Unit {0}
All P (x ∷ xs) = P x × All P xs

pub bytes_le : (n : ℕ) (l : List ℕ) → n ≤ length l → All Byte l → low_bytes n (little_endian n l) ≡ take n l
unfolding little_endian low_bytes
bytes_le zero l h a = refl
bytes_le (suc n) [] h a = absurd (omega arith)
bytes_le (suc n) (b ∷ l) h a =
    let m = a.0.most in
    let p : (b + 256 * little_endian n l) % 256 ≡ b = omega arith in
    let q : (b + 256 * little_endian n l) / 256 ≡ little_endian n l = omega arith in
    (λ j. p j ∷ low_bytes n (q j)) ∙ ap (λ (k : List ℕ). b ∷ k) (bytes_le n l (omega arith) a.1)

-- ---- an array

-- each x is below 256 ^ w as a number, and is taken for itself
pub record Back {A : Type 0} (w : ℕ) (f : ℕ → A) (g : A → ℕ) (x : A) : Type 0 where
  pub room : g x < 256 ^ w
  pub same : f (g x) ≡ x

pub taken_written : {A : Type 0} (w : ℕ) (f : ℕ → A) (g : A → ℕ) (xs : List A) (r : List ℕ) → All (Back w f g) xs → numbers_in w f (length xs) (written w g xs ++ r) ≡ xs
unfolding numbers_in written
taken_written w f g [] r h = refl
taken_written w f g (x ∷ xs) r h =
    let e : (low_bytes w (g x) ++ written w g xs) ++ r ≡ low_bytes w (g x) ++ (written w g xs ++ r) = append_assoc (low_bytes w (g x)) (written w g xs) r in
    ap (λ (l : List ℕ). f (little_endian w l) ∷ numbers_in w f (length xs) (drop w l)) e
    ∙ (λ j. f (le_bytes w (g x) (written w g xs ++ r) h.0.room j) ∷ numbers_in w f (length xs) (drop_bytes w (g x) (written w g xs ++ r) j))
    ∙ (λ j. h.0.same j ∷ taken_written w f g xs r h.1 j)

pub drop_written : {A : Type 0} (w : ℕ) (g : A → ℕ) (xs : List A) (r : List ℕ) → drop (w * length xs) (written w g xs ++ r) ≡ r
unfolding written
drop_written w g [] r = ap (λ (n : ℕ). drop n r) (mul-zero w)
drop_written w g (x ∷ xs) r =
    ap (λ (l : List ℕ). drop (w * suc (length xs)) l) (append_assoc (low_bytes w (g x)) (written w g xs) r)
    ∙ ap (λ (n : ℕ). drop n (low_bytes w (g x) ++ (written w g xs ++ r))) (mul-suc w (length xs) ∙ add_comm (w * length xs) w)
    ∙ sym (drop-drop (w * length xs) w (low_bytes w (g x) ++ (written w g xs ++ r)))
    ∙ ap (drop (w * length xs)) (drop_bytes w (g x) (written w g xs ++ r))
    ∙ drop_written w g xs r

-- ---- each kind of number

time_back : (t : ℤ) → time_in_range t ≡ true → Back 8 time_of time_bits t
unfolding time_in_range time_of time_bits
time_back (pos n) e = let h = ltb-true n 2745532800000000000 e in record { room = omega arith; same = simp (lt-ltb n 9223372036854775808 (omega arith)) }
time_back (negsuc n) e =
    let h = ltb-false 410227199999999999 n (not-true _ (and_true (not (ltb 410227199999999999 n)) true e).0) in
    let z : 18446744073709551615 - (18446744073709551615 - n) ≡ n = omega arith in
    record { room = omega arith; same = simp (le-ltb (18446744073709551615 - n) 9223372036854775808 (omega arith)) (ap negsuc z) }

times_back : (ts : List ℤ) → times_in_range ts ≡ true → All (Back 8 time_of time_bits) ts
unfolding times_in_range
times_back [] e = tt
times_back (t ∷ ts) e = let b = and_true (time_in_range t) (times_in_range ts) e in (time_back t b.0, times_back ts b.1)

-- what an f64 and a u32 hold
pub record Float64 (v : Float) : Type 0 where
  pub holds : T (fits binary64 v)

pub record Word (n : ℕ) : Type 0 where
  pub most : n < 4294967296

freqs_back : (vs : List Float) → All Float64 vs → All (Back 8 (of_bits binary64) (to_bits binary64)) vs
freqs_back [] h = tt
freqs_back (v ∷ vs) h = (record { room = to_bits-lt binary64 v h.0.holds; same = of_bits-to_bits binary64 v h.0.holds }, freqs_back vs h.1)

counts_back : (ns : List ℕ) → All Word ns → All (Back 4 (λ v. v) (λ v. v)) ns
counts_back [] h = tt
counts_back (n ∷ ns) h = (record { room = h.0.most; same = refl }, counts_back ns h.1)

-- ---- load after store

pub record Same (counts : List ℕ) (times : List ℤ) (freqs : List Float) (b : List ℕ) : Type 0 where
  pub passes : passes_in b ≡ length counts
  pub samples : samples_in b ≡ length times
  pub same_counts_lem : counts_in b ≡ counts
  pub same_times : times_in b ≡ times
  pub same_freqs : freqs_in b ≡ freqs
  pub sized : sized_right b ≡ true

module _ (counts : List ℕ) (times : List ℤ) (freqs : List Float) (z : Sizes counts (length times) (length freqs) (length counts)) (r : times_in_range times ≡ true) (c : All Word counts) (v : All Float64 freqs) where
  abbrev cs : List ℕ
  cs = written 4 (λ n. n) counts

  abbrev ts : List ℕ
  ts = written 8 time_bits times

  abbrev fs : List ℕ
  fs = written 8 (to_bits binary64) freqs

  abbrev b : List ℕ
  b = bytes_of counts times freqs

  p : passes_in b ≡ length counts
  unfolding bytes_of
  p = le_bytes 4 (length counts) (cs ++ (ts ++ fs)) (omega (arith, z.few))

  after : drop 4 b ≡ cs ++ (ts ++ fs)
  unfolding bytes_of
  after = drop_bytes 4 (length counts) (cs ++ (ts ++ fs))

  n : counts_in b ≡ counts
  n = (λ j. numbers_in 4 (λ k. k) (p j) (after j)) ∙ taken_written 4 (λ k. k) (λ k. k) counts (ts ++ fs) (counts_back counts c)

  s : samples_in b ≡ length times
  s = ap total n ∙ z.whole

  further : (k : ℕ) → drop (4 + k) b ≡ drop k (cs ++ (ts ++ fs))
  further k = sym (drop-drop k 4 b) ∙ ap (drop k) after

  times_at : drop (4 + 4 * passes_in b) b ≡ ts ++ fs
  times_at = further (4 * passes_in b) ∙ ap (λ (k : ℕ). drop (4 * k) (cs ++ (ts ++ fs))) p ∙ drop_written 4 (λ k. k) counts (ts ++ fs)

  t : times_in b ≡ times
  t = (λ j. numbers_in 8 time_of (s j) (times_at j)) ∙ taken_written 8 time_of time_bits times fs (times_back times r)

  freqs_at : drop (4 + 4 * passes_in b + 8 * samples_in b) b ≡ fs ++ []
  freqs_at =
      sym (drop-drop (8 * samples_in b) (4 + 4 * passes_in b) b)
      ∙ (λ j. drop (8 * s j) (times_at j))
      ∙ drop_written 8 time_bits times fs
      ∙ sym (append-nil fs)

  f : freqs_in b ≡ freqs
  f = (λ j. numbers_in 8 (of_bits binary64) ((s ∙ sym z.pairs) j) (freqs_at j)) ∙ taken_written 8 (of_bits binary64) (to_bits binary64) freqs [] (freqs_back freqs v)

  size : length b ≡ 4 + 4 * passes_in b + 16 * samples_in b
  unfolding bytes_of
  size =
      let l0 = length-append (low_bytes 4 (length counts)) (cs ++ (ts ++ fs)) in
      let l1 = length-append cs (ts ++ fs) in
      let l2 = length-append ts fs in
      let k0 = length_bytes 4 (length counts) in
      let k1 = length_written 4 (λ k. k) counts in
      let k2 = length_written 8 time_bits times in
      let k3 = length_written 8 (to_bits binary64) freqs in
      omega (arith, l0, l1, l2, k0, k1, k2, k3, p, s, z.pairs)

  -- bytes that were stored give the same set, and are not refused by 5
  pub load_store : Same counts times freqs (bytes_of counts times freqs)
  load_store =
      record {
        passes = p;
        samples = s;
        same_counts_lem = n;
        same_times = t;
        same_freqs = f;
        sized = sym (by_length b (subst (λ (k : ℕ). k ≤ 16) (sym p) z.few) (subst (λ (k : ℕ). k ≤ 4096) (sym s) z.small)) ∙ eq-eqb _ _ size;
      }

-- ---- store after load

all_drop : (n : ℕ) (l : List ℕ) → All Byte l → All Byte (drop n l)
all_drop zero l a = a
all_drop (suc n) [] a = tt
all_drop (suc n) (x ∷ l) a = all_drop n l a.1

take_add : {A : Type 0} (m n : ℕ) (l : List A) → take m l ++ take n (drop m l) ≡ take (m + n) l
take_add zero n l = ap (λ (k : ℕ). take k l) (sym (zero-add n))
take_add (suc m) n [] = take-nil n ∙ sym (take-nil (suc m + n))
take_add (suc m) n (x ∷ l) = ap (λ (k : List _). x ∷ k) (take_add m n l) ∙ ap (λ (k : ℕ). take k (x ∷ l)) (sym (suc-add m n))

le_room : (n : ℕ) (l : List ℕ) → All Byte l → little_endian n l < 256 ^ n
unfolding little_endian
le_room zero l a = omega arith
le_room (suc n) [] a = let p = one-le-pow (suc n) 256 (lit< tt) in omega arith
le_room (suc n) (b ∷ l) a =
    let m = a.0.most in
    let h = le_room n l a.1 in
    let e = pow-suc 256 n in
    omega arith

-- the first k numbers of w bytes are written as they were
module _ {A : Type 0} (w : ℕ) (f : ℕ → A) (g : A → ℕ) where
  abbrev pub Kept : ℕ → List ℕ → Type 0
  Kept zero l = Unit {0}
  Kept (suc k) l = (g (f (little_endian w l)) ≡ little_endian w l) × Kept k (drop w l)

  pub written_taken : (k : ℕ) (l : List ℕ) → w * k ≤ length l → All Byte l → Kept k l → written w g (numbers_in w f k l) ≡ take (w * k) l
  unfolding written numbers_in
  written_taken zero l h a e = ap (λ (n : ℕ). take n l) (sym (mul-zero w))
  written_taken (suc k) l h a e =
      let s = mul-suc w k in
      let d = length-drop w l in
      (λ j. low_bytes w (e.0 j) ++ written w g (numbers_in w f k (drop w l)))
      ∙ (λ j. bytes_le w l (omega arith) a j ++ written_taken k (drop w l) (omega arith) (all_drop w l a) e.1 j)
      ∙ take_add w (w * k) l
      ∙ ap (λ (n : ℕ). take n l) (sym (s ∙ add_comm (w * k) w))

counts_kept : (k : ℕ) (l : List ℕ) → Kept 4 (λ n. n) (λ n. n) k l
counts_kept zero l = tt
counts_kept (suc k) l = (refl, counts_kept k (drop 4 l))

time_kept : (u : ℕ) → u < 18446744073709551616 → time_bits (time_of u) ≡ u
unfolding time_of time_bits
time_kept u h = go (ltb u 9223372036854775808) refl
  where
    go : (x : Bool) → ltb u 9223372036854775808 ≡ x → time_bits (cond x (pos u) (negsuc (18446744073709551615 - u))) ≡ u
    go true e = refl
    go false e = omega arith

times_kept : (k : ℕ) (l : List ℕ) → All Byte l → Kept 8 time_of time_bits k l
times_kept zero l a = tt
times_kept (suc k) l a = (time_kept (little_endian 8 l) (le_room 8 l a), times_kept k (drop 8 l) (all_drop 8 l a))

-- Bytes that are accepted and hold no other NaN than the one that is stored are stored back as they are.
module _ (b : List ℕ) (a : All Byte b) (e : sized_right b ≡ true)
    (k : Kept 8 (of_bits binary64) (to_bits binary64) (samples_in b) (drop (4 + 4 * passes_in b + 8 * samples_in b) b)) where
  z : Fits b
  z = whole.fits b e

  pub store_load : bytes_of (counts_in b) (times_in b) (freqs_in b) ≡ b
  unfolding bytes_of
  store_load =
      let p = passes_in b in
      let s = samples_in b in
      let y = z.size in
      let d4 = length-drop 4 b in
      let dt = length-drop (4 + 4 * p) b in
      let df = length-drop (4 + 4 * p + 8 * s) b in
      let head : low_bytes 4 (length (counts_in b)) ≡ take 4 b = ap (low_bytes 4) (length_taken 4 (λ n. n) p (drop 4 b)) ∙ bytes_le 4 b (omega arith) a in
      let cs : written 4 (λ n. n) (counts_in b) ≡ take (4 * p) (drop 4 b) = written_taken 4 (λ n. n) (λ n. n) p (drop 4 b) (omega arith) (all_drop 4 b a) (counts_kept p (drop 4 b)) in
      let ts : written 8 time_bits (times_in b) ≡ take (8 * s) (drop (4 + 4 * p) b) =
      written_taken 8 time_of time_bits s (drop (4 + 4 * p) b) (omega arith) (all_drop (4 + 4 * p) b a) (times_kept s (drop (4 + 4 * p) b) (all_drop (4 + 4 * p) b a)) in
      let fs : written 8 (to_bits binary64) (freqs_in b) ≡ take (8 * s) (drop (4 + 4 * p + 8 * s) b) =
      written_taken 8 (of_bits binary64) (to_bits binary64) s (drop (4 + 4 * p + 8 * s) b) (omega arith) (all_drop (4 + 4 * p + 8 * s) b a) k in
      let last : take (8 * s) (drop (4 + 4 * p + 8 * s) b) ≡ drop (8 * s) (drop (4 + 4 * p) b) = take_all (8 * s) (drop (4 + 4 * p + 8 * s) b) (omega arith) ∙ sym (drop-drop (8 * s) (4 + 4 * p) b) in
      (λ j. head j ++ (cs j ++ (ts j ++ (fs ∙ last) j)))
      ∙ ap (λ (l : List ℕ). take 4 b ++ (take (4 * p) (drop 4 b) ++ l)) (take-append-drop (8 * s) (drop (4 + 4 * p) b) ∙ sym (drop-drop (4 * p) 4 b))
      ∙ ap (λ (l : List ℕ). take 4 b ++ l) (take-append-drop (4 * p) (drop 4 b))
      ∙ take-append-drop 4 b

-- Numbers in pieces of their bytes. Assumes nothing.
use mathlib.Core.Path.{◌≡◌, refl, sym, ap, ◌∙◌}
use mathlib.Core.Bool.{Bool, ◌&&◌}
use mathlib.Core.List.{List, [], ◌∷◌, ◌++◌, map, append-nil, append_assoc}
use Prim.Native.Nat.{ℕ, zero, suc, ◌+◌, ◌-◌, ◌*◌, ◌/◌, ◌≤◌, ◌<◌}
use native.Mathlib.Nat.{le_trans, le_of_eq, mul-zero, mul-suc, add_comm, mul-le-mul_left, le-add_right, mul-div_cancel_left}
use native.Mathlib.Numerals.{add-one}
use native.Mathlib.Omega.{arith}
use lib.ListN.{length, get_or, take, drop, set, length-set, length-append, length-drop, drop_of_length-le}
use lib.Seq.{drop-cons, drop-drop, take-take, length-take-le, sets, sets-eq, length-sets}
use borrow.Rule.Slice.PartMut.{put_mid}
use Rattle.std.specs.List.{sum_by, list_all}
use Rattle.std.specs.Int.{w32, from_le_bytes}
use Rattle.std.specs.Simd.{first_chunks}
use Rattle.std.proofs.lemmas.List.Sums.{sum_by-cons}
use Rattle.std.proofs.lemmas.List.{drop-take}
use Rattle.moment.specs.Sample.{time_in_range, times_in_range}
use Rattle.pass_set.specs.PassSet.{total}
use Rattle.stored.specs.Numbers.{little_endian, low_bytes, time_of, numbers_in, written}
use Rattle.stored.proofs.Words.{from_word, le_take, sets_append}

pub numbers_chunks : {A : Type 0} (w : ℕ) (f : ℕ → A) (k : ℕ) (l : List ℕ) → map (λ c. f (little_endian w c)) (first_chunks w k l) ≡ numbers_in w f k l
unfolding numbers_in
numbers_chunks w f zero l = refl
numbers_chunks w f (suc k) l = (λ j. f (le_take w l j) ∷ numbers_chunks w f k (drop w l) j)

-- the pieces of a part from i on are those of the whole there
chunks_take : (w n : ℕ) (l : List ℕ) → first_chunks w n (take (w * n) l) ≡ first_chunks w n l
chunks_take w zero l = refl
chunks_take w (suc n) l =
    ap (λ (k : ℕ). first_chunks w (suc n) (take k l)) (mul-suc w n ∙ add_comm (w * n) w)
    ∙ (λ j. take-take w (w + w * n) l (le-add_right w (w * n)) j ∷ first_chunks w n (drop-take w (w * n) l j))
    ∙ ap (λ (cs : List (List ℕ)). take w l ∷ cs) (chunks_take w n (drop w l))

pub part_numbers : {A : Type 0} (w : ℕ) (f : ℕ → A) (i j n : ℕ) (b : List ℕ) {cs : List (List ℕ)} → 0 < w → j ≡ i + w * n → j ≤ length b
    → cs ≡ first_chunks w (length (take (j - i) (drop i b)) / w) (take (j - i) (drop i b)) → map (λ c. f (little_endian w c)) cs ≡ numbers_in w f n (drop i b)
part_numbers w f i j n b {cs} p e h g =
    let m : j - i ≡ w * n = omega arith in
    let l : length (take (w * n) (drop i b)) ≡ w * n = length-take-le (w * n) (drop i b) (omega (arith, length-drop i b)) in
    let k : length (take (j - i) (drop i b)) / w ≡ n = ap (λ (m : ℕ). length (take m (drop i b)) / w) m ∙ ap (λ (k : ℕ). k / w) l ∙ mul-div_cancel_left n p in
    ap (map (λ c. f (little_endian w c))) (g ∙ (λ d. first_chunks w (k d) (take (m d) (drop i b))) ∙ chunks_take w n (drop i b))
    ∙ numbers_chunks w f n (drop i b)

pub counts_total : (cs : List (List ℕ)) → total (map (little_endian 4) cs) ≡ sum_by (λ c. from_le_bytes w32 c) cs
unfolding total
counts_total [] = refl
counts_total (c ∷ cs) = (λ j. sym (from_word c) j + counts_total cs j) ∙ sym (sum_by-cons (λ c. from_le_bytes w32 c) c cs)

pub all_times : (ts : List (List ℕ)) → times_in_range (map (λ t. time_of (little_endian 8 t)) ts) ≡ list_all (λ t. time_in_range (time_of (little_endian 8 t))) ts
unfolding times_in_range
all_times [] = refl
all_times (t ∷ ts) = ap (λ (b : Bool). time_in_range (time_of (little_endian 8 t)) && b) (all_times ts)

-- ---- a list filled from the front: k of its places have what is wanted

pub record Filled {A : Type 0} (vs out : List A) (k : ℕ) : Type 0 where
  pub inside : k ≤ length vs
  pub long : length out ≡ length vs
  pub left : sets out k (drop k vs) ≡ vs

pub sets_all : {A : Type 0} (vs out : List A) → length out ≡ length vs → sets out 0 vs ≡ vs
sets_all vs out e = sets-eq vs out 0 (omega arith) ∙ ap (λ (r : List _). vs ++ r) (drop_of_length-le out (omega arith)) ∙ append-nil vs

pub filled_none : {A : Type 0} (vs out : List A) → length out ≡ length vs → Filled vs out 0
filled_none vs out e = record { inside = omega arith; long = e; left = sets_all vs out e }

pub filled_more : {A : Type 0} {vs out : List A} {k : ℕ} (v : A) → Filled vs out k → k < length vs → drop k vs ≡ v ∷ drop (k + 1) vs → Filled vs (set out k v) (k + 1)
filled_more {vs = vs} {out = out} {k = k} v f h e =
    record {
      inside = omega arith;
      long = length-set out k v ∙ f.long;
      left = ap (λ (j : ℕ). sets (set out k v) j (drop (k + 1) vs)) (add-one k) ∙ sym (ap (sets out k) e) ∙ f.left;
    }

pub filled_all : {A : Type 0} {vs out : List A} {k : ℕ} → Filled vs out k → length vs ≤ k → out ≡ vs
filled_all {vs = vs} {out = out} {k = k} f h = sym (ap (sets out k) (drop_of_length-le vs h)) ∙ f.left

pub mapped_next : {A B : Type 0} (f : A → B) (xs : List A) (k : ℕ) (d : A) → k < length xs → drop k (map f xs) ≡ f (get_or xs k d) ∷ drop (k + 1) (map f xs)
mapped_next f [] k d h = absurd (omega arith)
mapped_next f (x ∷ xs) zero d h = refl
mapped_next f (x ∷ xs) (suc k) d h = mapped_next f xs k d (omega arith) ∙ ap (λ (j : ℕ). f (get_or xs k d) ∷ drop j (f x ∷ map f xs)) (next k)
  where
    next : (k : ℕ) → suc (k + 1) ≡ suc k + 1
    next k = omega arith

-- ---- numbers written one behind the other: k of them are

pub length_bytes : (n v : ℕ) → length (low_bytes n v) ≡ n
unfolding low_bytes
length_bytes zero v = refl
length_bytes (suc n) v = ap suc (length_bytes n (v / 256))

pub length_written : {A : Type 0} (w : ℕ) (g : A → ℕ) (xs : List A) → length (written w g xs) ≡ w * length xs
unfolding written
length_written w g [] = sym (mul-zero w)
length_written w g (x ∷ xs) = length-append (low_bytes w (g x)) (written w g xs) ∙ (λ j. length_bytes w (g x) j + length_written w g xs j) ∙ add_comm w (w * length xs) ∙ sym (mul-suc w (length xs))

-- the bytes of number k end within those of n
pub ends_within : (w k n : ℕ) → k < n → w * k + w ≤ w * n
ends_within w k n h = le_trans (le_of_eq (sym (mul-suc w k))) (mul-le-mul_left w h)

pub put_part : {A : Type 0} (vs out : List A) (i j : ℕ) → i + length vs ≡ j → j ≤ length out → take i out ++ vs ++ drop j out ≡ sets out i vs
put_part vs out i j e h = ap (λ (k : ℕ). take i out ++ vs ++ drop k out) (sym e) ∙ sym (sets-eq vs out i (rw e h))

pub record Writing {A : Type 0} (w : ℕ) (g : A → ℕ) (xs : List A) (out : List ℕ) (k : ℕ) : Type 0 where
  pub inside : k ≤ length xs
  pub long : length out ≡ w * length xs
  pub left : sets out (w * k) (written w g (drop k xs)) ≡ written w g xs

pub writing_none : {A : Type 0} (w : ℕ) (g : A → ℕ) (xs : List A) (out : List ℕ) → length out ≡ w * length xs → Writing w g xs out 0
writing_none w g xs out e =
    record {
      inside = omega arith;
      long = e;
      left = ap (λ (m : ℕ). sets out m (written w g xs)) (mul-zero w) ∙ sets_all (written w g xs) out (e ∙ sym (length_written w g xs));
    }

pub writing_more : {A : Type 0} {w : ℕ} {g : A → ℕ} {xs : List A} {out out' : List ℕ} {k : ℕ} (x : A)
    → Writing w g xs out k → k < length xs → x ≡ get_or xs k x → out' ≡ sets out (w * k) (low_bytes w (g x)) → Writing w g xs out' (k + 1)
unfolding written
writing_more {w = w} {g = g} {xs = xs} {out = out} {out' = out'} {k = k} x t h e p =
    let ys = written w g (drop (k + 1) xs) in
    let q : drop k xs ≡ x ∷ drop (k + 1) xs = drop-cons xs k x h ∙ (λ j. sym e j ∷ drop (sym (add-one k) j) xs) in
    record {
      inside = omega arith;
      long = ap length p ∙ length-sets out (w * k) (low_bytes w (g x)) ∙ t.long;
      left =
          (λ j. sets (p j) ((ap (λ (m : ℕ). w * m) (add-one k) ∙ mul-suc w k) j) ys)
          ∙ ap (λ (m : ℕ). sets (sets out (w * k) (low_bytes w (g x))) (w * k + m) ys) (sym (length_bytes w (g x)))
          ∙ sym (sets_append (low_bytes w (g x)) ys out (w * k))
          ∙ ap (λ (l : List _). sets out (w * k) (written w g l)) (sym q)
          ∙ t.left;
    }

pub writing_all : {A : Type 0} {w : ℕ} {g : A → ℕ} {xs : List A} {out : List ℕ} {k : ℕ} → Writing w g xs out k → length xs ≤ k → out ≡ written w g xs
unfolding written
writing_all {w = w} {g = g} {xs = xs} {out = out} {k = k} t h = sym (ap (λ (l : List _). sets out (w * k) (written w g l)) (drop_of_length-le xs h)) ∙ t.left

-- what a copy into the places from i to j leaves
pub put_span : {A : Type 0} (i j : ℕ) (out vs : List A) → i + length vs ≡ j → j ≤ length out → put_mid i (j - i) out vs ≡ sets out i vs
put_span i j out vs e h =
    let n : i + (j - i) ≡ j = omega arith in
    ap (λ (r : List _). take i out ++ (vs ++ r)) (drop-drop (j - i) i out ∙ ap (λ (k : ℕ). drop k out) n) ∙ sym (append_assoc (take i out) vs (drop j out)) ∙ put_part vs out i j e h

pub length_taken : {A : Type 0} (w : ℕ) (f : ℕ → A) (k : ℕ) (l : List ℕ) → length (numbers_in w f k l) ≡ k
unfolding numbers_in
length_taken w f zero l = refl
length_taken w f (suc k) l = ap suc (length_taken w f k (drop w l))

-- Laws on the definitions of specs/: what a turn of each loop does to them. Assumes nothing.
use mathlib.Core.Path.{◌≡◌, refl, sym, ap, ◌∙◌}
use mathlib.Core.Bool.{Bool, true, false, not}
use mathlib.Core.List.{List, [], ◌∷◌, ◌++◌, map, append_assoc, append-nil}
use mathlib.Core.Option.{Option, none, some}
use Prim.Native.Nat.{ℕ, suc, ◌+◌, ◌-◌, ◌*◌, ◌<◌, ◌≤◌}
use native.Mathlib.Nat.{add-sub_cancel_left, le_antisymm}
use native.Mathlib.Numerals.{add-one}
use native.Mathlib.Omega.{arith}
use lib.ListN.{length, get_or, take, drop, set, drop_of_length-le, length-append}
use lib.Seq.{drop-cons, take-suc-set, take_at, length-take-le}
use lib.Dec.{eqb}
use borrow.Author.Tests.{ne_eqb}
use borrow.Rule.Slice.PartMut.{mid_of, put_mid, post_of, mid_len, same_len_mid}
use lib.Ieee.{Float}
use Rattle.std.proofs.lemmas.List.{take_all}
use Rattle.float.specs.Ops.{◌⊕◌, ◌⊖◌, ◌⊗◌, bits, at}
use Rattle.pass_set.specs.PassSet.{total}
use Rattle.float.specs.declared.trig.SinCos.{SinCos}
use Rattle.moment.specs.Time.{over_of, tau_of}
use Rattle.orbit.specs.Orbit.{ecef_at}
use Rattle.orbit.specs.Doppler.{adjusted_of, corrected_of, epoch_count, predicted_of}
use Rattle.orbit.specs.declared.Elements.{Elements}
use Rattle.orbit.specs.declared.doppler.Station.{Station}
use Rattle.std.specs.Bool.{⊤}
use Rattle.std.proofs.Common.{Result, Ok, Err}
use Rattle.refusal.specs.Refusals.{answer, first_of, ◌when◌}
use Rattle.refusal.specs.declared.Refusal.{Refusal}
use Rattle.refusal.specs.declared.Refusal.TheVariants.{FarMoment}
use Rattle.std.specs.List.{fold}
use Rattle.residuals.specs.Samples.{Passes}
use Rattle.residuals.specs.Residuals.{◌then◌, elements_of, dt_of, pass_bias, shift_of, prediction_of, residual, samples, passes, dt_weight_bits, df1_weight_bits, df2_weight_bits, dt_penalties, drift_penalties, penalties, rows_of, residuals, sum_squares, sum_of}
use Rattle.residuals.specs.Answers.{filled_answer, Filled, Summed}
use Rattle.residuals.specs.declared.Bias.{Bias}

-- ---- a const parameter of type bool, which proofs hold as a number

abbrev pub flag : ℕ → Bool
flag n = not (eqb n 0)

pub flag_true : (n : ℕ) → (n ≡ 0 → ⊥) → flag n ≡ true
flag_true n h = ap not (ne_eqb n 0 h)

pub flag_false : (n : ℕ) → n ≡ 0 → flag n ≡ false
flag_false n h = ap flag h

-- ---- lists one after the other

pub then_nil : {A : Type 0} (ys : Option (List A)) → (some [] then ys) ≡ ys
then_nil none = refl
then_nil (some ys) = refl

pub then_assoc : {A : Type 0} (xs ys zs : Option (List A)) → ((xs then ys) then zs) ≡ (xs then (ys then zs))
then_assoc none ys zs = refl
then_assoc (some xs) none zs = refl
then_assoc (some xs) (some ys) none = refl
then_assoc (some xs) (some ys) (some zs) = ap some (append_assoc xs ys zs)

pub then_nothing : {A : Type 0} (xs : List A) → (some xs then some []) ≡ some xs
then_nothing xs = ap some (append-nil xs)

-- A store at place k moves the seam between what is written and what is still to come.
pub seam : {A : Type 0} (out : List A) (k : ℕ) (r : A) (rest : Option (List A)) → k < length out
    → (some (take k out) then (some (r ∷ []) then rest)) ≡ (some (take (k + 1) (set out k r)) then rest)
seam out k r rest h =
    sym (then_assoc (some (take k out)) (some (r ∷ [])) rest)
    ∙ ap (λ (l : List _). some l then rest) (sym (ap (λ (n : ℕ). take n (set out k r)) (add-one k) ∙ take-suc-set out k r h))

-- ---- passes and samples

pub total_next : (ns : List ℕ) (p : ℕ) → p < length ns → total (drop p ns) ≡ get_or ns p 0 + total (drop (p + 1) ns)
unfolding total
total_next ns p h = rw (add-one, drop-cons ns p 0)

pub total_end : (ns : List ℕ) (p : ℕ) → length ns ≤ p → total (drop p ns) ≡ 0
unfolding total
total_end ns p h = rw (drop_of_length-le ns {i = p} h)

module _ (one : ℕ → ℕ → ℕ → Option (List Float)) where
  -- Into a pass.
  pub passes_next : (p k : ℕ) (ns : List ℕ) → p < length ns
      → passes one p k (drop p ns) ≡ (samples one p k k (get_or ns p 0) then passes one (p + 1) (k + get_or ns p 0) (drop (p + 1) ns))
  unfolding passes
  passes_next p k ns h =
      ap (passes one p k) (drop-cons ns p 0 h)
      ∙ ap (λ (j : ℕ). samples one p k k (get_or ns p 0) then passes one (p + 1) (k + get_or ns p 0) (drop j ns)) (sym (add-one p))

  pub passes_end : (p k : ℕ) (ns : List ℕ) → length ns ≤ p → passes one p k (drop p ns) ≡ some []
  unfolding passes
  passes_end p k ns h = rw (drop_of_length-le ns {i = p} h)

  -- To the next sample.
  pub samples_next : (p f k e : ℕ) → k < e → samples one p f k (e - k) ≡ (one p f k then samples one p f (k + 1) (e - (k + 1)))
  unfolding samples
  samples_next p f k e h = ap (samples one p f k) (less e k h)
    where
      less : (e k : ℕ) → k < e → e - k ≡ suc (e - (k + 1))
      less e k h = omega arith

  pub samples_end : (p f k e : ℕ) → e ≤ k → samples one p f k (e - k) ≡ some []
  unfolding samples
  samples_end p f k e h = ap (samples one p f k) (nothing e k h)
    where
      nothing : (e k : ℕ) → e ≤ k → e - k ≡ 0
      nothing e k h = omega arith

-- A prediction is refused by no other refusal than 23.
far_alone : (r : Refusal) (o q : Bool) (v : Float) → answer (first_of ((FarMoment when o) ∷ (FarMoment when q) ∷ [])) v ≡ Err r → r ≡ FarMoment
far_alone r true q v e = cc
far_alone r false true v e = cc
far_alone r false false v e = cc

predicted_far : (g : Station) (e : Elements) (t : ℕ) (turn : SinCos) (dt near bias : Float) (r : Refusal) → predicted_of g e t turn dt near bias ≡ Err r → r ≡ FarMoment
unfolding predicted_of
predicted_far g e t turn dt near bias r h =
    let early = adjusted_of t dt in
    let late = corrected_of early (ecef_at e.a e.i e.raan0 e.u0 (tau_of early (epoch_count g)) turn) in
    far_alone r (over_of early) (over_of late) _ h

pub only_far : (g : Station) (times : List ℕ) (e : Elements) (dt : Float) (b : Bias) (f k : ℕ) {y : Result Float Refusal} → y ≡ prediction_of g times e dt b f k → (r : Refusal) → y ≡ Err r → r ≡ FarMoment
unfolding prediction_of
only_far g times e dt b f k ey r h = predicted_far g e _ _ dt _ _ r (sym ey ∙ h)

-- The residual of a sample from the prediction y.
module _ (second : Bool) (g : Station) (d : Passes) (x : List Float) (p f k : ℕ) (e : Elements) (dt : Float) (b : Bias) (y : Result Float Refusal)
    (ee : e ≡ elements_of x) (et : dt ≡ dt_of second x p) (eb : b ≡ pass_bias second x p) (ey : y ≡ prediction_of g d.times e dt b f k) where
  shift_is : shift_of (prediction_of g d.times (elements_of x) (dt_of second x p) (pass_bias second x p) f k) ≡ shift_of y
  shift_is = rw (ey, ee, et, eb)

  pub residual_is : (v : Float) → y ≡ Ok v → residual second g d x p f k ≡ some ((at d.freqs k ⊖ (g.center_freq ⊕ v)) ∷ [])
  unfolding residual
  residual_is v h = rw (shift_is, h)

  pub residual_far : (r : Refusal) → y ≡ Err r → residual second g d x p f k ≡ none
  unfolding residual
  residual_far r h = rw (shift_is, h)

-- ---- what a turn of the loops over passes and samples does to "what is written, then what is to come, is w"

module _ (one : ℕ → ℕ → ℕ → Option (List Float)) (w : Option (List Float)) where
  pub into_pass : (out : List Float) (p k : ℕ) (ns : List ℕ) → p < length ns
      → (some (take k out) then passes one p k (drop p ns)) ≡ w
      → (some (take k out) then (samples one p k k (k + get_or ns p 0 - k) then passes one (p + 1) (k + get_or ns p 0) (drop (p + 1) ns))) ≡ w
  into_pass out p k ns h e =
      ap (λ (n : ℕ). some (take k out) then (samples one p k k n then passes one (p + 1) (k + get_or ns p 0) (drop (p + 1) ns))) (add-sub_cancel_left k (get_or ns p 0))
      ∙ ap (some (take k out) then◌) (sym (passes_next one p k ns h))
      ∙ e

  pub next_sample : (out : List Float) (p f k e : ℕ) (r : Float) (more : Option (List Float)) → k < e → k < length out → one p f k ≡ some (r ∷ [])
      → (some (take k out) then (samples one p f k (e - k) then more)) ≡ w
      → (some (take (k + 1) (set out k r)) then (samples one p f (k + 1) (e - (k + 1)) then more)) ≡ w
  next_sample out p f k e r more h l is q =
      sym (seam out k r (samples one p f (k + 1) (e - (k + 1)) then more) l)
      ∙ ap (some (take k out) then◌) (sym (then_assoc (some (r ∷ [])) (samples one p f (k + 1) (e - (k + 1))) more))
      ∙ ap (λ (s : Option (List Float)). some (take k out) then (s then more)) (sym (samples_next one p f k e h ∙ ap (◌then samples one p f (k + 1) (e - (k + 1))) is))
      ∙ q

  pub too_far : (l : List Float) (p f k e : ℕ) (more : Option (List Float)) → k < e → one p f k ≡ none
      → (some l then (samples one p f k (e - k) then more)) ≡ w → none ≡ w
  too_far l p f k e more h is q =
      sym (ap (λ (s : Option (List Float)). some l then (s then more)) (samples_next one p f k e h ∙ ap (◌then samples one p f (k + 1) (e - (k + 1))) is)) ∙ q

  pub past_pass : (out : List Float) (p f k e : ℕ) (more : Option (List Float)) → k ≤ e → e ≤ k
      → (some (take k out) then (samples one p f k (e - k) then more)) ≡ w → (some (take e out) then more) ≡ w
  past_pass out p f k e more u h q =
      ap (λ (j : ℕ). some (take j out) then more) (sym (le_antisymm u h))
      ∙ ap (some (take k out) then◌) (sym (then_nil more))
      ∙ ap (λ (s : Option (List Float)). some (take k out) then (s then more)) (sym (samples_end one p f k e h))
      ∙ q

  pub past_passes : (l : List Float) (p k : ℕ) (ns : List ℕ) → length ns ≤ p
      → (some l then passes one p k (drop p ns)) ≡ w → some l ≡ w
  past_passes l p k ns h q = sym (then_nothing l) ∙ ap (some l then◌) (sym (passes_end one p k ns h)) ∙ q

-- ---- penalties and the sum

pub stored : {A : Type 0} (out : List A) (k : ℕ) (r : A) (rest : List A) → k < length out → take (k + 1) (set out k r) ++ rest ≡ take k out ++ (r ∷ rest)
stored out k r rest h =
    ap (◌++ rest) (ap (λ (n : ℕ). take n (set out k r)) (add-one k) ∙ take-suc-set out k r h) ∙ append_assoc (take k out) (r ∷ []) rest

-- all is written, and nothing is left to come
pub all_taken : {A : Type 0} (out : List A) (k : ℕ) (rest : List A) → length out ≤ k → rest ≡ [] → out ≡ take k out ++ rest
all_taken out k rest h e = rw (e, append-nil, take_all k out h) refl

-- what is written to a lent part stands behind what lies before it
pub part_written : {A : Type 0} (xs ys : List A) (a e : ℕ) → a ≤ e → e ≤ length xs → length ys ≡ e - a → take e (put_mid a (e - a) xs ys) ≡ take a xs ++ ys
part_written xs ys a e h l size =
    ap (take e) (sym (append_assoc (take a xs) ys (post_of a (e - a) xs)))
    ∙ take_at (take a xs ++ ys) (post_of a (e - a) xs) e (length-append (take a xs) ys ∙ ap (◌+ length ys) (length-take-le a xs (omega arith)) ∙ omega (arith, size))

-- the penalties on dt, written behind n residuals
pub dt_written : (second : Bool) (x out v : List Float) (n m : ℕ) → n + m ≤ length out → length v ≡ length (mid_of n (n + m - n) out)
    → v ≡ dt_penalties second x 0 (length (mid_of n (n + m - n) out)) → take (n + m) (put_mid n (n + m - n) out v) ≡ take n out ++ dt_penalties second x 0 m
dt_written second x out v n m h size e =
    let long = mid_len n (n + m) out h in
    part_written out v n (n + m) (omega arith) h (size ∙ long) ∙ ap (take n out ++◌) (e ∙ ap (dt_penalties second x 0) (long ∙ add-sub_cancel_left n m))

-- and those on the drifts, behind n more
pub drift_written : (x out v w : List Float) (n m : ℕ) → n + 3 * m ≤ length out → length v ≡ length (mid_of n (n + m - n) out)
    → length w ≡ length (mid_of (n + m) (n + 3 * m - (n + m)) (put_mid n (n + m - n) out v)) → w ≡ drift_penalties x 0 m
    → take (n + 3 * m) (put_mid (n + m) (n + 3 * m - (n + m)) (put_mid n (n + m - n) out v) w) ≡ take (n + m) (put_mid n (n + m - n) out v) ++ drift_penalties x 0 m
drift_written x out v w n m h size sizes e =
    let l : n + 3 * m ≤ length (put_mid n (n + m - n) out v) = omega (arith, h, same_len_mid n (n + m - n) out v size) in
    part_written (put_mid n (n + m - n) out v) w (n + m) (n + 3 * m) (omega arith) l (sizes ∙ mid_len (n + m) (n + 3 * m) _ l) ∙ ap (take (n + m) (put_mid n (n + m - n) out v) ++◌) e

less_one : (e k : ℕ) → k < e → e - k ≡ suc (e - (k + 1))
less_one e k h = omega arith

none_left : (e k : ℕ) → e ≤ k → e - k ≡ 0
none_left e k h = omega arith

module _ (second : Bool) (x : List Float) (p n : ℕ) where
  -- dt is what the code read
  pub dt_next : (dt : Float) → dt ≡ dt_of second x p → p < n
      → dt_penalties second x p (n - p) ≡ (dt ⊗ bits 0x4024000000000000) ∷ dt_penalties second x (p + 1) (n - (p + 1))
  unfolding dt_penalties
  dt_next dt e h = ap (dt_penalties second x p) (less_one n p h) ∙ rw (dt_weight_bits, e)

  pub dt_end : n ≤ p → dt_penalties second x p (n - p) ≡ []
  unfolding dt_penalties
  dt_end h = ap (dt_penalties second x p) (none_left n p h)

module _ (x : List Float) (p n : ℕ) where
  pub drift_next : p < n → drift_penalties x p (n - p)
      ≡ (at x (4 + 4 * p + 2) ⊗ bits 0x4059000000000000) ∷ (at x (4 + 4 * p + 3) ⊗ bits 0x40c3880000000000) ∷ drift_penalties x (p + 1) (n - (p + 1))
  unfolding drift_penalties
  drift_next h = ap (drift_penalties x p) (less_one n p h) ∙ rw (df1_weight_bits, df2_weight_bits)

  pub drift_end : n ≤ p → drift_penalties x p (n - p) ≡ []
  unfolding drift_penalties
  drift_end h = ap (drift_penalties x p) (none_left n p h)

-- as the library adds them
pub squares_fold : (r : List Float) (sum : Float) → fold (λ (a x : Float). a ⊕ x) sum (map (λ (x : Float). x ⊗ x) r) ≡ sum_squares sum r
unfolding sum_squares
squares_fold [] sum = refl
squares_fold (v ∷ r) sum = squares_fold r (sum ⊕ v ⊗ v)

-- ---- the whole

-- nothing is given, and the refusal is 23
pub far_filled : {w : Option (List Float)} {r : Refusal} {xs : List Float} → none ≡ w → r ≡ FarMoment → Filled (Err r) xs w
far_filled z e = record { written = z; answer = ap Err e ∙ ap filled_answer z }

-- a refusal says that nothing is given, and is 23
pub refused_far : {w : Option (List Float)} {r : Refusal} {xs : List Float} → Filled (Err r) xs w → r ≡ FarMoment
refused_far {w} {r} f = far w (f.answer)
  where
    far : (w : Option (List Float)) → Err r ≡ filled_answer w → r ≡ FarMoment
    far none e = cc
    far (some xs) e = cc

-- all is given, and is what was written
pub all_filled : {w : Option (List Float)} {xs : List Float} → some xs ≡ w → Filled (Ok tt) xs w
all_filled z = record { written = z; answer = ap filled_answer z }

module _ (second : Bool) (g : Station) (d : Passes) (x : List Float) where
  far_then : (w v : Option (List Float)) → none ≡ w → (w then v) ≡ w
  far_then none v z = refl
  far_then (some xs) v z = cc

  pub residuals_far : (e : Refusal) (l m : List Float) → Filled (Err e) l (passes (residual second g d x) 0 0 d.counts) → Filled (Err e) m (residuals second g d x)
  unfolding residuals
  residuals_far e l m p =
      far_filled (p.written ∙ sym (far_then (passes (residual second g d x) 0 0 d.counts) (some (penalties second x (length d.counts))) p.written)) (refused_far p)

  -- what is written after the samples' residuals l is the penalties
  whole_written : (u : ⊤) (j : ℕ) (l o : List Float) → Filled (Ok u) l (passes (residual second g d x) 0 0 d.counts)
      → take j o ≡ l ++ penalties second x (length d.counts) → Filled (Ok tt) (take j o) (residuals second g d x)
  unfolding residuals
  whole_written u j l o p e = all_filled (ap some e ∙ ap (◌then some (penalties second x (length d.counts))) p.written)

  module _ (u : ⊤) (n m : ℕ) (o₁ o₂ : List Float) (p : Filled (Ok u) (take n o₁) (passes (residual second g d x) 0 0 d.counts)) (c : length d.counts ≡ m)
      (e₂ : take (n + m) o₂ ≡ take n o₁ ++ dt_penalties second x 0 m) where
    pub first_written : second ≡ false → Filled (Ok tt) (take (rows_of second n m) o₂) (residuals second g d x)
    unfolding rows_of penalties
    first_written e = whole_written u (rows_of second n m) (take n o₁) o₂ p (rw (e, c, append-nil) (rw e at e₂))

    pub second_written : (o₃ : List Float) → second ≡ true → take (n + 3 * m) o₃ ≡ take (n + m) o₂ ++ drift_penalties x 0 m
        → Filled (Ok tt) (take (rows_of second n m) o₃) (residuals second g d x)
    unfolding rows_of penalties
    second_written o₃ e e₃ =
        whole_written u (rows_of second n m) (take n o₁) o₃ p
        (rw (e, c) (e₃ ∙ ap (◌++ drift_penalties x 0 m) (rw e at e₂) ∙ append_assoc (take n o₁) (dt_penalties true x 0 m) (drift_penalties x 0 m)))

pub sum_far : (e : Refusal) (l : List Float) (w : Option (List Float)) → Filled (Err e) l w → Summed l w (Err e)
sum_far e l none p = record { answer = ap Err (refused_far p); written = refl }
sum_far e l (some xs) p = let z = p.written in cc

pub sum_is : (u : ⊤) (l : List Float) (v : Float) (w : Option (List Float)) → Filled (Ok u) l w → v ≡ sum_of l → Summed l w (Ok v)
sum_is u l v w p s = record { answer = rw (s, ← p.written); written = rw (← p.written) }

-- what a trial that was not refused left are the set's residuals
pub summed_known : (xs : List Float) (w : Option (List Float)) (r : Result Float Refusal) (v : Float) → Summed xs w r → r ≡ Ok v → some xs ≡ w
summed_known xs none r v s e = let a = s.answer in cc
summed_known xs (some ys) r v s e = s.written

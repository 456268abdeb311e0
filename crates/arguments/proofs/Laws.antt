-- What follows for a fit's work: of the non-empty passes, and of arguments that are not refused. Assumes nothing.
use mathlib.Core.Path.{◌≡◌, refl, ◌∙◌}
use mathlib.Core.Bool.{Bool, true, false, cond, ◌&&◌, ◌||◌}
use mathlib.Core.List.{List, [], ◌∷◌}
use Prim.Native.Nat.{ℕ, zero, suc, ◌+◌, ◌≤◌, ◌<◌}
use native.Mathlib.Nat.{le_of_suc-le-suc, not-suc-le-zero}
use native.Mathlib.Omega.{arith}
use lib.Dec.{eqb, leb}
use lib.IntN.{ℤ}
use lib.ListN.{length, get_or}
use lib.Ieee.{Float, nan, lt, is_nan}
use borrow.Author.Tests.{eqb-true, eqb-false, leb-true, ltb-false, not-false}
use Rattle.laws.proofs.Tests.{or_false, and_true}
use Rattle.std.proofs.Common.{None}
use Rattle.refusal.proofs.Lists.{clear}
use Rattle.float.specs.Ops.{bits}
use Rattle.float.specs.Trig.{pi}
use Rattle.frame.specs.declared.Vec3.{Vec3}
use Rattle.moment.proofs.Samples.{timed}
use Rattle.pass_set.specs.PassSet.{total, Sizes}
use Rattle.pass_set.proofs.Laws as set
use Rattle.arguments.specs.Passes.{non_empty}
use Rattle.arguments.specs.declared.Room.{Room}
use Rattle.arguments.specs.Refusals.{
  least_a,
  most_a,
  nan_argument,
  out_of_range,
  any_nan,
  scratch_size,
  enough,
  input_refusals,
  input_refusal_of,
  Guess,
  InputAccepted,
  Roomy,
}

-- ---- the non-empty passes: one count at a time, kept where b is false

total_one : (b : Bool) (n t : ℕ) (ks : List ℕ) → (b ≡ true → n ≡ 0) → total ks ≡ t → total (cond b ks (n ∷ ks)) ≡ n + t
unfolding total
total_one true n t ks z e = let h = z refl in omega (arith, h, e)
total_one false n t ks z e = omega (arith, e)

-- they have all samples
pub total_kept : (counts : List ℕ) → total (non_empty counts) ≡ total counts
unfolding non_empty total
total_kept [] = refl
total_kept (n ∷ ns) = total_one (eqb n 0) n (total ns) (non_empty ns) (eqb-true n 0) (total_kept ns)

length_one : (b : Bool) (n m : ℕ) (ks : List ℕ) → length ks ≤ m → length (cond b ks (n ∷ ks)) ≤ suc m
length_one true n m ks h = omega arith
length_one false n m ks h = omega arith

pub few_kept : (counts : List ℕ) → length (non_empty counts) ≤ length counts
unfolding non_empty
few_kept [] = omega arith
few_kept (n ∷ ns) = length_one (eqb n 0) n (length ns) (non_empty ns) (few_kept ns)

at_one : (b : Bool) (n k : ℕ) (ks : List ℕ) → (b ≡ false → n ≡ 0 → ⊥) → ((j : ℕ) → j < length ks → 0 < get_or ks j 0)
    → k < length (cond b ks (n ∷ ks)) → 0 < get_or (cond b ks (n ∷ ks)) k 0
at_one true n k ks d each h = each k h
at_one false n zero ks d each h = positive n (d refl)
  where
    positive : (m : ℕ) → (m ≡ 0 → ⊥) → 0 < m
    positive m e = omega (arith, e)
at_one false n (suc k) ks d each h = each k (le_of_suc-le-suc h)

-- each has a sample
pub each_kept : (counts : List ℕ) (k : ℕ) → k < length (non_empty counts) → 0 < get_or (non_empty counts) k 0
unfolding non_empty
each_kept [] k h = absurd (not-suc-le-zero h)
each_kept (n ∷ ns) k h = at_one (eqb n 0) n k (non_empty ns) (eqb-false n 0) (each_kept ns) h

-- they with the same samples are a set, with a centre for each
pub sizes_kept : {counts : List ℕ} {times freqs centers : ℕ} → Sizes counts times freqs centers → Sizes (non_empty counts) times freqs (length (non_empty counts))
sizes_kept {counts} s =
    record { few = omega (arith, few_kept counts, s.few); centred = refl; small = s.small; pairs = s.pairs; whole = total_kept counts ∙ s.whole }

-- ---- arguments that are not refused

guess : (rec : Vec3) (a i : Float) → nan_argument rec a i ≡ false → out_of_range a i ≡ false → Guess rec a i
unfolding nan_argument out_of_range
guess rec a i e f =
    let x = or_false (is_nan rec.x) (is_nan rec.y || (is_nan rec.z || (is_nan a || is_nan i))) e in
    let y = or_false (is_nan rec.y) (is_nan rec.z || (is_nan a || is_nan i)) x.1 in
    let z = or_false (is_nan rec.z) (is_nan a || is_nan i) y.1 in
    let n = or_false (is_nan a) (is_nan i) z.1 in
    let l = or_false (lt a least_a) (lt most_a a || (lt i (bits 0) || lt pi i)) f in
    let m = or_false (lt most_a a) (lt i (bits 0) || lt pi i) l.1 in
    let q = or_false (lt i (bits 0)) (lt pi i) m.1 in
    record {
      x_number = x.0;
      y_number = y.0;
      z_number = z.0;
      a_number = n.0;
      i_number = n.1;
      a_low = l.0;
      a_high = m.0;
      i_low = q.0;
      i_high = q.1;
    }

number_at : (fs : List Float) (k : ℕ) → k < length fs → any_nan fs ≡ false → is_nan (get_or fs k nan) ≡ false
unfolding any_nan
number_at [] k h e = absurd (not-suc-le-zero h)
number_at (f ∷ fs) zero h e = (or_false (is_nan f) (any_nan fs) e).0
number_at (f ∷ fs) (suc k) h e = number_at fs k (le_of_suc-le-suc h) (or_false (is_nan f) (any_nan fs) e).1

module _ (counts : List ℕ) (times : List ℤ) (freqs centers : List Float) (rec : Vec3) (a i : Float) where
  pub accepted : input_refusal_of counts times freqs centers rec a i ≡ None → InputAccepted counts times freqs centers rec a i
  unfolding input_refusal_of
  accepted h =
      let s = clear (input_refusals counts times freqs centers rec a i []) h in
      record {
        sizes = set.sizes (not-false _ s.0);
        timed = timed (not-false _ s.1.0);
        guess = guess rec a i s.1.1.0 s.1.1.1.0;
        numbers = λ k l. number_at freqs k l s.1.1.1.1.0;
        passes = ltb-false (length (non_empty counts)) 2 s.1.1.1.1.1.0;
        samples = ltb-false (length times) (4 + length (non_empty counts)) s.1.1.1.1.1.1.0;
      }

pub roomy : (s p : ℕ) (r : Room) → enough s p r ≡ true → Roomy s p r
unfolding enough
roomy s p r e =
    let a = and_true (leb p r.dts) (leb p r.dfs && (leb p r.df1s && (leb p r.df2s && (leb 150 r.log && leb (scratch_size s p) r.scratch)))) e in
    let b = and_true (leb p r.dfs) (leb p r.df1s && (leb p r.df2s && (leb 150 r.log && leb (scratch_size s p) r.scratch))) a.1 in
    let c = and_true (leb p r.df1s) (leb p r.df2s && (leb 150 r.log && leb (scratch_size s p) r.scratch)) b.1 in
    let d = and_true (leb p r.df2s) (leb 150 r.log && leb (scratch_size s p) r.scratch) c.1 in
    let f = and_true (leb 150 r.log) (leb (scratch_size s p) r.scratch) d.1 in
    record {
      dts_room = leb-true p r.dts a.0;
      dfs_room = leb-true p r.dfs b.0;
      df1s_room = leb-true p r.df1s c.0;
      df2s_room = leb-true p r.df2s d.0;
      log_room = leb-true 150 r.log f.0;
      scratch_room = leb-true (scratch_size s p) r.scratch f.1;
    }

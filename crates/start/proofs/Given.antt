-- Which sets the refinements start from: all non-empty passes of accepted arguments, and the first passes of these. Assumes nothing.
use mathlib.Core.Path.{◌≡◌, refl, sym, ◌∙◌}
use mathlib.Core.Bool.{Bool, true, false}
use mathlib.Core.List.{List}
use Prim.Native.Nat.{ℕ, ◌≤◌, ◌<◌}
use native.Mathlib.Omega.{arith}
use lib.Dec.{leb}
use lib.IntN.{ℤ, pos}
use lib.ListN.{length, take, length-take}
use lib.Seq.{length-take-le, get_or-take}
use lib.Ieee.{Float}
use borrow.Author.Tests.{leb-true, leb-false}
use Rattle.frame.specs.declared.Vec3.{Vec3}
use Rattle.moment.specs.Sample.{Timed}
use Rattle.pass_set.specs.PassSet.{start_of, total}
use Rattle.pass_set.proofs.Laws.{start_fits, start_last}
use Rattle.arguments.specs.Passes.{non_empty}
use Rattle.arguments.specs.Refusals.{InputAccepted}
use Rattle.arguments.proofs.Laws.{sizes_kept, each_kept}
use Rattle.start.specs.Start.{SampledPasses}

pub accepted_passes : {counts : List ℕ} {times : List ℤ} {freqs centers : List Float} {rec : Vec3} {a i : Float}
    → InputAccepted counts times freqs centers rec a i → SampledPasses (non_empty counts) times freqs
accepted_passes {counts} h = record { sizes = sizes_kept h.sizes; timed = h.timed; each = each_kept counts }

-- ---- the first m passes, with their samples

start_within : (counts : List ℕ) (m : ℕ) → start_of counts m ≤ total counts
start_within counts m = go (leb (length counts) m) refl
  where
    go : (b : Bool) → leb (length counts) m ≡ b → start_of counts m ≤ total counts
    go true e = omega (arith, start_last counts m (leb-true (length counts) m e))
    go false e = omega (arith, start_fits counts m (leb-false (length counts) m e))

shorter : {A : Type 0} (n : ℕ) (l : List A) → length (take n l) ≤ length l
shorter n l = rw (length-take n l) (omega arith)

inside : {A : Type 0} (n k : ℕ) (l : List A) → k < length (take n l) → (k < n) × (k < length l)
inside n k l h = let e = length-take n l in (omega arith, omega arith)

timed_part : (n : ℕ) (times : List ℤ) → Timed times → Timed (take n times)
timed_part n times s =
    record { each = λ k h. let i = inside n k times h in rw (get_or-take n times k (pos 0) i.0) (s.each k i.1) }

pub first_passes : {counts : List ℕ} {times : List ℤ} {freqs : List Float} (m : ℕ) → SampledPasses counts times freqs
    → SampledPasses (take m counts) (take (start_of counts m) times) (take (start_of counts m) freqs)
unfolding start_of
first_passes {counts} {times} {freqs} m s =
    let n : ℕ = total (take m counts) in
    let whole : total counts ≡ length times = s.sizes.whole in
    let pairs : length freqs ≡ length times = s.sizes.pairs in
    let within = start_within counts m in
    let t : length (take n times) ≡ n = length-take-le n times (omega arith) in
    let f : length (take n freqs) ≡ n = length-take-le n freqs (omega arith) in
    record {
      sizes = record {
        few = omega (arith, shorter m counts, s.sizes.few);
        centred = refl;
        small = omega (arith, shorter n times, s.sizes.small);
        pairs = f ∙ sym t;
        whole = sym t;
      };
      timed = timed_part n times s.timed;
      each = λ p h. let i = inside m p counts h in rw (get_or-take m counts p 0 i.0) (s.each p i.1);
    }

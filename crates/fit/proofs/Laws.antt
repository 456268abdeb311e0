-- Parts of lists, and writing the outputs. Assumes nothing.
use mathlib.Core.Path.{◌≡◌, refl, sym, ap, ◌∙◌}
use mathlib.Core.Bool.{Bool, true, false, ◌||◌}
use mathlib.Core.List.{List, [], ◌∷◌, ◌++◌}
use Prim.Native.Nat.{ℕ, zero, suc, ◌+◌, ◌*◌, ◌≤◌, ◌<◌}
use native.Mathlib.Numerals.{add-one}
use native.Mathlib.Omega.{arith}
use lib.ListN.{length, take, drop, set, length-append}
use lib.Seq.{length-take-le}
use lib.IntN.{ℤ}
use lib.Ieee.{Float, lt}
use Rattle.float.specs.Ops.{abs_of, at}
use Rattle.solution.specs.declared.SolvedOrbit.{SolvedOrbit}
use Rattle.trials.specs.declared.Trials.{Trials}
use Rattle.trials.proofs.Laws.{more}
use Rattle.fit.specs.Answer.{largest_offset, biases, any_large, orbit_of, Outputs, outputs, over}
use Rattle.fit.specs.Work.{Puts}

-- ---- biases

pub length_biases : (k : ℕ) (x : List Float) (n : ℕ) → length (biases k x n) ≡ n
unfolding biases
length_biases k x zero = refl
length_biases k x (suc n) = length-append (biases k x n) (at x (4 + 4 * n + k) ∷ []) ∙ ap (◌+ 1) (length_biases k x n) ∙ add-one n

biases_next : (k : ℕ) (x : List Float) (n : ℕ) → biases k x (n + 1) ≡ biases k x n ++ (at x (4 + 4 * n + k) ∷ [])
unfolding biases
biases_next k x n = ap (biases k x) (add-one n)

pub bias_more : (k : ℕ) (x old out : List Float) (p : ℕ) → p < length old → out ≡ biases k x p ++ drop p old
    → set out p (at x (4 + 4 * p + k)) ≡ biases k x (p + 1) ++ drop (p + 1) old
bias_more k x old out p h e =
    more (biases k x p) _ old out p (length_biases k x p) h e ∙ ap (λ (l : List Float). l ++ drop (p + 1) old) (sym (biases_next k x p))

pub all_biases : (k : ℕ) (x old out : List Float) (p n : ℕ) → p ≤ n → n ≤ p → out ≡ biases k x p ++ drop p old → out ≡ biases k x n ++ drop n old
all_biases k x old out p n h l e =
    let same : p ≡ n = omega arith in
    rw same at e

-- ---- one more offset

any_snoc : (l : List Float) (d : Float) → any_large (l ++ (d ∷ [])) ≡ (any_large l || lt largest_offset (abs_of d))
unfolding any_large
any_snoc [] d = or_false (lt largest_offset (abs_of d))
  where
    or_false : (b : Bool) → (b || false) ≡ b
    or_false true = refl
    or_false false = refl
any_snoc (c ∷ l) d = ap (lt largest_offset (abs_of c) ||◌) (any_snoc l d) ∙ or_assoc (lt largest_offset (abs_of c)) (any_large l) (lt largest_offset (abs_of d))
  where
    or_assoc : (a b c : Bool) → (a || (b || c)) ≡ ((a || b) || c)
    or_assoc true b c = refl
    or_assoc false b c = refl

pub large_more : (x : List Float) (p : ℕ) (large r : Bool) → large ≡ any_large (biases 1 x p) → r ≡ (large || lt largest_offset (abs_of (at x (4 + 4 * p + 1))))
    → r ≡ any_large (biases 1 x (p + 1))
large_more x p large r e h =
    h
    ∙ ap (◌|| lt largest_offset (abs_of (at x (4 + 4 * p + 1)))) e
    ∙ sym (any_snoc (biases 1 x p) (at x (4 + 4 * p + 1)))
    ∙ ap any_large (sym (biases_next 1 x p))

pub all_large : (x : List Float) (p n : ℕ) (large : Bool) → p ≤ n → n ≤ p → large ≡ any_large (biases 1 x p) → large ≡ any_large (biases 1 x n)
all_large x p n large h k e =
    let same : p ≡ n = omega arith in
    rw same at e

-- ---- the answer's trials

pub take_fits : (count m : ℕ) (sums : List Float) → count ≤ length sums → length sums ≤ m → length (take count sums) ≤ m
take_fits count m sums h k = omega (arith, length-take-le count sums h)

-- written to the first places
over_is : (k : ℕ) (x : List Float) (n : ℕ) (old d : List Float) → d ≡ biases k x n ++ drop n old → d ≡ over (biases k x n) old
over_is k x n old d e = e ∙ ap (λ (m : ℕ). biases k x n ++ drop m old) (sym (length_biases k x n))

pub puts : (t : Trials) (n : ℕ) (times : List ℤ) (sums : List Float) (o : Outputs) (d f g h l : List Float) (q : SolvedOrbit)
    → d ≡ biases 0 t.state.best_params n ++ drop n o.dts
    → f ≡ biases 1 t.state.best_params n ++ drop n o.dfs
    → g ≡ biases 2 t.state.best_params n ++ drop n o.df1s
    → h ≡ biases 3 t.state.best_params n ++ drop n o.df2s
    → l ≡ take t.count sums ++ drop (length (take t.count sums)) o.log
    → q ≡ orbit_of t.state.best_params times
    → Puts t n times sums o (outputs d f g h l) (record { orbit = q; trials = t.count; best = t.state.best })
puts t n times sums o d f g h l q a b c e i j =
    let x : List Float = t.state.best_params in
    record {
      answered = rw j;
      written = rw (over_is 0 x n o.dts d a, over_is 1 x n o.dfs f b, over_is 2 x n o.df1s g c, over_is 3 x n o.df2s h e, i);
    }

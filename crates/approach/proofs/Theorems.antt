-- What stands in each place of the output of `get_pred_pca_times`. Assumes nothing.
use mathlib.Core.Path.{◌≡◌, refl, ◌∙◌}
use mathlib.Core.Logic.{◌⊎◌, inl, inr}
use mathlib.Core.List.{List}
use Prim.Native.Nat.{ℕ, ◌+◌, ◌≤◌, ◌<◌}
use native.Mathlib.Nat.{eq-or-lt_of_le}
use native.Mathlib.Omega.{arith}
use lib.IntN.{ℤ, pos}
use lib.ListN.{length, get_or, set, length-set}
use lib.Seq.{get_or-set_same, get_or-set_other}
use lib.Ieee.{Float, nan}
use Rattle.loops.proofs.Laws.{for_ind}
use Rattle.moment.specs.Sample.{since_of}
use Rattle.pass_set.specs.PassSet.{pass_of}
use Rattle.orbit.specs.declared.Elements.{Elements}
use Rattle.orbit.specs.declared.doppler.Station.{Station}
use Rattle.approach.specs.Pca.{pred_pca_time, put_pca_of, pca_times_of}

-- j places hold v, the others what they held in out
pub record Filled (v : ℕ → ℤ) (out : List ℤ) (j : ℕ) (u : List ℤ) : Type 0 where
  pub same : length u ≡ length out
  pub done : (p : ℕ) → p < j → get_or u p (pos 0) ≡ v p
  pub left : (p : ℕ) → j ≤ p → get_or u p (pos 0) ≡ get_or out p (pos 0)

done_more : (v : ℕ → ℤ) (out u : List ℤ) (j p : ℕ) → j < length out → Filled v out j u → (p ≡ j) ⊎ (p < j) → get_or (set u j (v j)) p (pos 0) ≡ v p
done_more v out u j p h f (inl e) =
    let l : j < length u = rw f.same h in
    rw e (get_or-set_same u j (v j) (pos 0) l)
done_more v out u j p h f (inr l) = get_or-set_other u j p (v j) (pos 0) (λ e. omega arith) ∙ f.done p l

filled_more : (v : ℕ → ℤ) (out u : List ℤ) (j : ℕ) → j < length out → Filled v out j u → Filled v out (j + 1) (set u j (v j))
filled_more v out u j h f =
    record {
      same = length-set u j (v j) ∙ f.same;
      done = λ p l. let m : p ≤ j = omega arith in done_more v out u j p h f (eq-or-lt_of_le m);
      left = λ p l. let m : j ≤ p = omega arith in get_or-set_other u j p (v j) (pos 0) (λ e. omega arith) ∙ f.left p m;
    }

-- place p holds pass p's closest moment, and the places after the passes are as they were
pub placed : (g : Station) (e : Elements) (counts : List ℕ) (times : List ℤ) (freqs centers : List Float) (out : List ℤ) → length counts ≤ length out
    → Filled (λ p. since_of (pred_pca_time g e (get_or centers 0 nan) (pass_of counts p times) (pass_of counts p freqs))) out (length counts) (pca_times_of g e counts times freqs centers out)
unfolding pca_times_of put_pca_of
placed g e counts times freqs centers out room =
    let v : ℕ → ℤ = λ p. since_of (pred_pca_time g e (get_or centers 0 nan) (pass_of counts p times) (pass_of counts p freqs)) in
    for_ind (put_pca_of g e (get_or centers 0 nan) counts times freqs) (Filled v out) 0 (length counts) out (omega arith)
    (record { same = refl; done = λ p l. absurd (omega arith); left = λ p l. refl })
    (λ j u h l f. filled_more v out u j (omega arith) f)

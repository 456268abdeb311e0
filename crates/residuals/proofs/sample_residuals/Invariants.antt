-- `sample_residuals` meets its contract. Both loops keep one equation: what is written, then what the definition still has to
-- give, is the whole. Assumes nothing.
use mathlib.Core.Path.{◌≡◌}
use mathlib.Core.List.{List}
use mathlib.Core.Option.{some}
use Prim.Native.Nat.{ℕ, ◌+◌, ◌-◌, ◌≤◌}
use Rattle.std.specs.Bool.{⊤}
use Rattle.std.proofs.Common.{Result, Ok}
use Rattle.refusal.specs.declared.Refusal.{Refusal}
use lib.ListN.{length, take, drop}
use lib.Ieee.{Float}
use Rattle.pass_set.specs.PassSet.{total}
use Rattle.residuals.specs.Residuals.{◌then◌, residual, samples, passes}
use Rattle.residuals.specs.Answers.{passes_in}
use Rattle.residuals.proofs.Laws.{flag}
use Rattle.residuals.proofs.sample_residuals.Given as goal

-- at the head of the loop over passes: p and k are where the next pass and its samples stand
pub record Outer (one : ℕ → ℕ → ℕ → _) (counts : List ℕ) (out₀ out : List Float) (answer : Result ⊤ Refusal) (k p : ℕ) : Type 0 where
  pub clear : answer ≡ Ok tt
  pub left : k + total (drop p counts) ≡ total counts
  pub same : length out ≡ length out₀
  pub whole : (some (take k out) then passes one p k (drop p counts)) ≡ passes one 0 0 counts

-- at the head of the loop over a pass's samples, which start at `first` and end before `end`
pub record Inner (one : ℕ → ℕ → ℕ → _) (counts times : List ℕ) (freqs out₀ : List Float) (p first end : ℕ) (out : List Float) (answer : Result ⊤ Refusal) (j : ℕ) : Type 0 where
  pub clear : answer ≡ Ok tt
  pub from : first ≤ j
  pub upto : j ≤ end
  pub inside : end ≤ length times
  pub small : length times ≤ 4096
  pub pairs : length freqs ≡ length times
  pub room : length times ≤ length out
  pub left : end + total (drop (p + 1) counts) ≡ total counts
  pub same : length out ≡ length out₀
  pub whole : (some (take j out) then (samples one p first j (end - j) then passes one (p + 1) end (drop (p + 1) counts))) ≡ passes one 0 0 counts

abbrev pub invariant-loop-j : goal.invariant-loop-j
invariant-loop-j g l =
    Inner (residual (flag g.row.SECOND) l.obs.station (passes_in l.obs) l.set.params) l.obs.counts.now l.obs.times.now l.obs.freqs.now l.initial.out l.p l.first l.end l.out l.answer l.j

abbrev pub invariant-passes : goal.invariant-passes
invariant-passes g l =
    Outer (residual (flag g.row.SECOND) l.obs.station (passes_in l.obs) l.set.params) l.obs.counts.now l.initial.out l.out l.answer l.k l.p

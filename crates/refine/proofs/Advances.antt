-- What the calls of `advance` make of a step. Assumes nothing.
use mathlib.Core.Path.{◌≡◌, ap, ◌∙◌}
use mathlib.Core.Bool.{Bool, true, false}
use mathlib.Core.List.{List, ◌++◌}
use Prim.Native.Nat.{ℕ, ◌+◌, ◌*◌, ◌≤◌}
use native.Mathlib.Nat.{mul-le-mul}
use native.Mathlib.Omega.{arith}
use lib.ListN.{length, take, drop}
use lib.Seq.{drop_at, length-take-le}
use lib.Ieee.{Float}
use Rattle.float.specs.Ops.{at}
use Rattle.std.specs.Bool.{⊤}
use Rattle.std.proofs.Common.{Result, Ok, Err}
use Rattle.refusal.specs.declared.Refusal.{Refusal}
use Rattle.loops.specs.Loop.{try}
use Rattle.orbit.specs.declared.doppler.Station.{Station}
use Rattle.residuals.specs.Samples.{Passes, Samples}
use Rattle.residuals.specs.Residuals.{place_of, rows_of, residuals}
use Rattle.residuals.specs.Answers.{Filled, Summed}
use Rattle.residuals.proofs.Laws.{refused_far, summed_known}
use Rattle.normal.specs.Normal.{table_entry}
use Rattle.normal.specs.Step.{Outcome, refused, damped_step}
use Rattle.normal.proofs.Same.{step_same}
use Rattle.refine.specs.Jacobian.{eps_of, residual_at, entry_of, column_of}
use Rattle.refine.specs.Advance.{advance_of, cells_of, Ready}
use Rattle.refine.proofs.Table.{table_far, table_done}

-- ---- sizes

pub places_few : (second : Bool) (p : ℕ) → p ≤ 16 → place_of second p ≤ 68
unfolding place_of
places_few true p h = omega arith
places_few false p h = omega arith

pub rows_fit : (second : Bool) (s p : ℕ) → rows_of second s p ≤ s + 3 * p
unfolding rows_of
rows_fit true s p = omega arith
rows_fit false s p = omega arith

columns_fit : (second : Bool) (p : ℕ) → place_of second p ≤ 5 + 4 * p
unfolding place_of
columns_fit true p = omega arith
columns_fit false p = omega arith

-- the scratch that document 01 asks for holds the table
pub scratch_enough : (second : Bool) (s p room : ℕ) → (s + 3 * p) * (5 + 4 * p) + 20000 ≤ room → rows_of second s p * place_of second p ≤ room
scratch_enough second s p room h = omega (arith, mul-le-mul (rows_fit second s p) (columns_fit second p))

pub places_four : (second : Bool) (p : ℕ) → 4 ≤ place_of second p
unfolding place_of
places_four true p = omega arith
places_four false p = omega arith

-- from a trial that was not refused to the step after it: k residuals are lent of those that the trial left in out
pub ready_after : (second : Bool) (g : Station) (d : Passes) (x out : List Float) (k room : ℕ) (sum : Result Float Refusal) (v : Float)
    → k ≡ rows_of second (length d.times) (length d.counts) → k ≤ length out
    → Summed (take (rows_of second (length d.times) (length d.counts)) out) (residuals second g d x) sum → sum ≡ Ok v
    → rows_of second (length d.times) (length d.counts) * place_of second (length d.counts) ≤ room → Ready second g d x (take k out) room
ready_after second g d x out k room sum v e h w q l =
    record {
      rows = length-take-le k out h ∙ e;
      known = rw e (summed_known _ _ _ _ w q);
      table = rw (length-take-le k out h, e) l;
    }

-- n is the number of parameters
module _ (second : Bool) (g : Station) (d : Passes) (turns x r : List Float) (room n : ℕ) (samples : Samples g d turns) (ready : Ready second g d x r room) (en : n ≡ place_of second (length d.counts)) where
  pub columns_few : n ≤ 68
  columns_few = rw en (places_few second (length d.counts) samples.few)

  pub columns_four : 4 ≤ n
  columns_four = rw en (places_four second (length d.counts))

  pub rows_few : length r ≤ 4144
  rows_few = omega (arith, samples.few, samples.small, ready.rows, rows_fit second (length d.times) (length d.counts))

  pub cells_few : length r * n ≤ 281792
  cells_few = mul-le-mul rows_few columns_few

  pub cells_fit : length r * n ≤ room
  cells_fit = rw en ready.table

  residual_is : (row : ℕ) → at r row ≡ residual_at (residuals second g d) x row
  unfolding residual_at
  residual_is row = rw (← ready.known)

  -- the scratch s' has the table u at its front, and behind it what s had
  pub behind : (u s s' : List Float) → length u ≡ length r * n → s' ≡ u ++ drop (length r * n) s → drop (cells_of second d) s' ≡ drop (cells_of second d) s
  behind u s s' l e = rw (← en, ← ready.rows, e) (drop_at u (drop (length r * n) s) (length r * n) l)

  module _ (lambda : Float) (t u : List Float) (l : length t ≡ length r * n) where
    pub advance_far : (e : Refusal) → Filled (Err e) u (try 0 n (column_of (eps_of second) (residuals second g d) x r (length r) n) t) → refused e ≡ advance_of second g d lambda x
    unfolding advance_of
    advance_far e made =
        rw (← en, table_far (eps_of second) (residuals second g d) x r (length r) n ready.known e t u l made)
        (ap refused (refused_far made))

    pub advance_done : (y : ⊤) (w : Outcome) → Filled (Ok y) u (try 0 n (column_of (eps_of second) (residuals second g d) x r (length r) n) t)
        → w ≡ damped_step second (length r) n (table_entry n u) (at r) lambda x → w ≡ advance_of second g d lambda x
    unfolding advance_of
    advance_done y w made ew =
        let tab = table_done (eps_of second) (residuals second g d) x r (length r) n ready.known y t u l made in
        let stepped : damped_step second (length r) n (table_entry n u) (at r) lambda x ≡ damped_step second (length r) n (entry_of (eps_of second) (residuals second g d) x) (residual_at (residuals second g d) x) lambda x
        = step_same (length r) n (table_entry n u) (entry_of (eps_of second) (residuals second g d) x) (at r) (residual_at (residuals second g d) x) tab.holds (λ row h. residual_is row) second lambda x in
        rw (← en, tab.near, ← ready.rows) (ew ∙ stepped)

-- `Augmented::reduce_column` meets its contract. Assumes nothing.
use Rattle.linear.specs.Elimination.{least_pivot_bits, cell_of, pivot_row, swap_rows, eliminate_below, reduce_column}
use mathlib.Core.Path.{◌≡◌}
use mathlib.Core.Bool.{true, false, cond}
use mathlib.Core.Option.{none, some}
use Rattle.std.proofs.Common.{Ok, Err}
use Rattle.float.specs.Ops.{bits, abs_of, at}
use mathlib.Core.List.{List}
use lib.Ieee.{Float, lt}
use Prim.Native.Nat.{ℕ}
use Rattle.refusal.specs.declared.Refusal.TheVariants.{SmallPivot}
use Rattle.linear.specs.Answer.{Reduces}
use Rattle.linear.proofs.Steps.{reduced, too_small}
use Rattle.linear.proofs.Augmented.reduce_column.Goals as goal

-- what the calls ensure: m is the pivot's row, p the matrix with it brought up, u the pivot and x its size
module _ (n i m : ℕ) (a p : List Float) (u x : Float) (em : m ≡ pivot_row n a i) (ep : p ≡ swap_rows n i m a) (eu : u ≡ at p (cell_of n i i)) (ex : x ≡ abs_of u) where
  tested : reduce_column n i a ≡ cond (lt x (bits 0x3d719799812dea11)) none (some (eliminate_below n i p))
  unfolding reduce_column
  tested = rw (least_pivot_bits, ex, eu, ep, em)

  refused : lt x (bits 0x3d719799812dea11) ≡ true → Reduces (Err SmallPivot) p (reduce_column n i a)
  refused e = too_small (record { made = rw (tested, e) })

  cleared : (q : List Float) → lt x (bits 0x3d719799812dea11) ≡ false → q ≡ eliminate_below n i p → Reduces (Ok tt) q (reduce_column n i a)
  cleared q e eq = reduced (record { made = rw (tested, e, eq) })

pub returns-then-abs-clause-after : goal.returns-then-abs-clause-after
returns-then-abs-clause-after c =
    let same = c.swap_rows.ensures.size in
    refused _ _ _ _ _ _ _ c.pivot_row-m.ensures.0 c.swap_rows.ensures.after (rw same at c.entry-pivot.ensures) c.abs.ensures c.if-abs.true

pub returns-clause-after : goal.returns-clause-after
returns-clause-after c =
    let same = c.swap_rows.ensures.size in
    cleared _ _ _ _ _ _ _ c.pivot_row-m.ensures.0 c.swap_rows.ensures.after (rw same at c.entry-pivot.ensures) c.abs.ensures _ c.if-abs.false (rw same at c.eliminate_below.ensures.after)

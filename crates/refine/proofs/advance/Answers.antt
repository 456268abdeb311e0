-- `advance` meets its contract. Assumes nothing.
use mathlib.Core.Path.{refl, sym}
use native.Mathlib.Omega.{arith}
use borrow.Author.Rules.{rules}
use lib.Seq.{length-take-le}
use Rattle.refine.proofs.Advances.{columns_few, columns_four, rows_few, cells_few, cells_fit, behind, advance_far, advance_done}
use Rattle.refine.proofs.advance.Goals as goal

pub place_of-n-requires : goal.place_of-n-requires
place_of-n-requires g c = c.args.obs.now.held.few

pub overflow_mul-cells : goal.overflow_mul-cells
overflow_mul-cells g c = omega (arith, cells_few _ _ _ _ _ _ _ _ c.args.obs.now.held c.requires c.place_of-n.ensures.0)

pub slice_bounds-derivatives-end : goal.slice_bounds-derivatives-end
slice_bounds-derivatives-end g c = cells_fit _ _ _ _ _ _ _ _ c.args.obs.now.held c.requires c.place_of-n.ensures.0

pub slice_bounds-derivatives-end-2 : goal.slice_bounds-derivatives-end-2
slice_bounds-derivatives-end-2 g c =
    sym (length-take-le _ _ (cells_fit _ _ _ _ _ _ _ _ c.args.obs.now.held c.requires c.place_of-n.ensures.0))

pub jacobian-requires : goal.jacobian-requires
jacobian-requires g c = (search rules, c.requires.rows)

pub returns-in-Err : goal.returns-in-Err
returns-in-Err g c =
    let pre = c.requires in
    let held = c.args.obs.now.held in
    let en = c.place_of-n.ensures.0 in
    let e = c.in-Err.ensures in
    let long = length-take-le _ _ (cells_fit _ _ _ _ _ _ _ _ held pre en) in
    record {
      outcome = advance_far _ _ _ _ _ _ _ _ held pre en _ _ _ long _ e.filled;
      behind = behind _ _ _ _ _ _ _ _ held pre en _ c.args.scratch.now _ (search (rules, long)) refl;
    }

pub invariant_of-derivatives : goal.invariant_of-derivatives
invariant_of-derivatives g c =
    let pre = c.requires in
    let held = c.args.obs.now.held in
    let en = c.place_of-n.ensures.0 in
    record {
      grid = record { few = rows_few _ _ _ _ _ _ _ _ held pre en; narrow = columns_few _ _ _ _ _ _ _ _ held pre en; full = length-take-le _ _ (cells_fit _ _ _ _ _ _ _ _ held pre en) };
      parameters = columns_four _ _ _ _ _ _ _ _ held pre en;
    }

pub invariant_of-table : goal.invariant_of-table
invariant_of-table g c =
    let e = c.in_default.ensures in
    record {
      grid = rw (e.size, e.residuals) at c.jacobian.new.table.grid;
      parameters = columns_four _ _ _ _ _ _ _ _ c.args.obs.now.held c.requires c.place_of-n.ensures.0;
    }

pub returns : goal.returns
returns g c =
    let pre = c.requires in
    let held = c.args.obs.now.held in
    let en = c.place_of-n.ensures.0 in
    let e = c.in_default.ensures in
    let long = length-take-le _ _ (cells_fit _ _ _ _ _ _ _ _ held pre en) in
    record {
      outcome = advance_done _ _ _ _ _ _ _ _ held pre en _ _ _ long _ _ e.filled c.damped_step.ensures;
      behind = behind _ _ _ _ _ _ _ _ held pre en _ c.args.scratch.now _ (search (rules, long)) refl;
    }

-- `fill_window` meets its contract. Assumes nothing.
use mathlib.Core.Path.{◌≡◌}
use native.Mathlib.Omega.{arith}
use Rattle.loops.proofs.Laws.{loops}
use Rattle.approach.specs.Turns.{entries}
use Rattle.approach.proofs.Fill.{written_none, written_more}
use Rattle.approach.proofs.turns.fill_window.Goals as goal

pub overflow_sub-base : goal.overflow_sub-base
overflow_sub-base c = search loops

pub loop-j-init : goal.loop-j-init
loop-j-init c = (search loops, written_none _ _ _)

pub overflow_add-secs : goal.overflow_add-secs
overflow_add-secs c = search loops

pub overflow_add-at : goal.overflow_add-at
overflow_add-at c = search loops

pub put_turn-requires : goal.put_turn-requires
put_turn-requires c =
    let w = c.requires.0 in
    let s = c.loop-j.invariant.1.kept.same in
    (record { low = omega (arith, w.low, c.loop-j-test.true); high = omega (arith, w.high, c.loop-j-test.true); part = w.part }, omega arith)

pub overflow_step-j : goal.overflow_step-j
overflow_step-j c = search loops

pub loop-j-smaller : goal.loop-j-smaller
loop-j-smaller c = search loops

pub loop-j-preserved : goal.loop-j-preserved
loop-j-preserved c =
    let s = c.loop-j.invariant.1.kept.same in
    (omega arith, written_more _ _ c.loop-j.j _ _ _ (omega arith) c.loop-j.invariant.1 c.put_turn.ensures)

pub shape_of-table : goal.shape_of-table
shape_of-table c = c.loop-j.invariant.1.kept.same

pub returns : goal.returns
returns c =
    let e : c.loop-j.j ≡ entries = omega (arith, c.loop-j-test.false, c.loop-j.invariant.0) in
    rw e at c.loop-j.invariant.1

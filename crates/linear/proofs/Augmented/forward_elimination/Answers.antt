-- `Augmented::forward_elimination` meets its contract. Assumes nothing.
use mathlib.Core.Path.{refl, ◌∙◌}
use Rattle.std.proofs.lemmas.Result.{err_from_is_err_and}
use Rattle.loops.proofs.Laws.{again_try, ends_try, loops}
use Rattle.linear.specs.Elimination.{forward_elimination}
use Rattle.linear.proofs.Steps.{reduced, stopped}
use Rattle.linear.proofs.Augmented.forward_elimination.Goals as goal

pub loop-i-init : goal.loop-i-init
unfolding forward_elimination
loop-i-init c = search loops

pub returns-in_err-reduce_column-clause-after : goal.returns-in_err-reduce_column-clause-after
returns-in_err-reduce_column-clause-after c =
    let p = err_from_is_err_and c.from_residual.result c.from_residual.ensures.1 in
    rw (p.1, p.2) (stopped c.loop-i-test.true c.loop-i.invariant.1 (rw c.loop-i.invariant.0 at c.in_err-reduce_column.ensures.after))

pub loop-i-preserved : goal.loop-i-preserved
loop-i-preserved c =
    let same = c.loop-i.invariant.0 in
    let r = rw same at c.in_ok-reduce_column.ensures.after in
    (c.reduce_column.ensures.size ∙ same, again_try c.loop-i-test.true c.loop-i.invariant.1 r.left refl)

pub returns-clause-after : goal.returns-clause-after
returns-clause-after c = reduced (ends_try c.loop-i-test.false c.loop-i.invariant.1)

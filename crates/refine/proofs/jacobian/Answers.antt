-- `jacobian` meets its contract. Assumes nothing.
use mathlib.Core.Path.{◌∙◌}
use Rattle.std.proofs.lemmas.Result.{err_from_is_err_and}
use Rattle.refine.proofs.Columns.{again_fill, refused_fill, columns}
use Rattle.refine.proofs.jacobian.Goals as goal

pub loop-k-init : goal.loop-k-init
loop-k-init g c = search columns

pub jacobian_column-requires : goal.jacobian_column-requires
jacobian_column-requires g c = search columns

pub returns-in_err-jacobian_column-clause-filled : goal.returns-in_err-jacobian_column-clause-filled
returns-in_err-jacobian_column-clause-filled g c =
    let i = c.loop-k.invariant in
    let p = err_from_is_err_and c.from_residual.result c.from_residual.ensures.1 in
    rw (p.1, p.2) (refused_fill c.loop-k-test.true i.2 (rw (i.0, i.1) at c.in_err-jacobian_column.ensures.filled))

pub loop-k-preserved : goal.loop-k-preserved
loop-k-preserved g c =
    let i = c.loop-k.invariant in
    let e = c.in_ok-jacobian_column.ensures in
    (e.size ∙ i.0, e.residuals ∙ i.1, again_fill c.loop-k-test.true i.2 (rw (i.0, i.1) at e.filled))

pub returns-clause-filled : goal.returns-clause-filled
returns-clause-filled g c = search columns

-- `biases_of` meets its contract. Assumes nothing.
use Rattle.std.proofs.Common.{sym, ◌∙◌, le_of_lt, arith, length-take-le}
use lib.ListN.{get_or-eq_default}
use Rattle.command.proofs.Reports.{over_sixteen, no_samples, with_samples}
use Rattle.command.proofs.report.biases_of.Goals as goal

pub returns-then-counts-gt16 : goal.returns-then-counts-gt16
returns-then-counts-gt16 c = c.no_biases.ensures ∙ sym (over_sixteen _ _ _ _ _ _ c.if-counts-gt16.true)

pub returns-then-counts-p : goal.returns-then-counts-p
returns-then-counts-p c =
    let a = c.args in
    c.no_biases-then-counts-p.ensures ∙ sym (no_samples _ _ _ _ _ _ c.if-counts-gt16.false (get_or-eq_default a.counts.now 0 c.if-counts-p.true))

pub returns-then-counts-p-eq0 : goal.returns-then-counts-p-eq0
returns-then-counts-p-eq0 c = c.no_biases-then-counts-p-eq0.ensures ∙ sym (no_samples _ _ _ _ _ _ c.if-counts-gt16.false c.if-counts-p-eq0.true)

pub slice_bounds-non_empty-end : goal.slice_bounds-non_empty-end
slice_bounds-non_empty-end c = sym (length-take-le _ _ (le_of_lt c.if-counts-p.false))

pub non_empty-before-requires : goal.non_empty-before-requires
non_empty-before-requires c = omega (arith, slice_bounds-non_empty-end c, c.if-counts-p.false, c.if-counts-gt16.false)

pub returns : goal.returns
returns c =
    with_samples _ _ _ _ _ _ c.if-counts-gt16.false c.if-counts-p-eq0.false c.non_empty-before.ensures.number c.biases_at.ensures

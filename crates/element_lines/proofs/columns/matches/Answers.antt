-- `element_lines::columns::matches` meets its contract: what is left of the line decides. Assumes nothing.
use mathlib.Core.Path.{refl, sym, ◌∙◌}
use native.Mathlib.Omega.{arith}
use Rattle.element_lines.proofs.Matching as matching
use Rattle.element_lines.proofs.columns.matches.Goals as goal

pub returns-then-line-table : goal.returns-then-line-table
returns-then-line-table c = matching.other_length _ _ c.if-line-table.true

pub loop-i-init : goal.loop-i-init
loop-i-init c = record { sizes = c.if-line-table.false; is = refl }

pub returns-then-not-may_stand : goal.returns-then-not-may_stand
returns-then-not-may_stand c =
    let l = c.loop-i in
    matching.wrong l.before l.i _ _ (omega (arith, l.invariant.sizes)) (omega arith) (sym c.may_stand.ensures ∙ c.if-not-may_stand.true) ∙ l.invariant.is

pub loop-i-preserved : goal.loop-i-preserved
loop-i-preserved c =
    let l = c.loop-i in
    record {
      sizes = l.invariant.sizes;
      is = matching.right l.before l.i _ _ (omega (arith, l.invariant.sizes)) (omega arith) (sym c.may_stand.ensures ∙ c.if-not-may_stand.false) ∙ l.invariant.is;
    }

pub returns : goal.returns
returns c =
    let l = c.loop-i in
    sym (matching.end l.before l.i _ _ l.invariant.sizes (omega arith) c.loop-i-test.false) ∙ l.invariant.is

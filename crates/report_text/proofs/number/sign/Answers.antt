use Rattle.append.proofs.Appending.{none}
use borrow.Author.Tests.{eq-eqb, ne_eqb}
use Rattle.report_text.specs.Number.{minus_text}
use Rattle.report_text.proofs.number.sign.Goals.{else-n-ne0-via-then-n-ne0+else-v, else-n-ne0-via-else-n-ne0}
use Rattle.report_text.proofs.number.sign.Goals as goal

pub returns-then-v : goal.returns-then-v
unfolding minus_text
returns-then-v c = rw (ne_eqb _ _ c.if-n-ne0.true, c.if-v.true) c.put.ensures

pub returns-else-n-ne0 : goal.returns-else-n-ne0
unfolding minus_text
returns-else-n-ne0 c =
    elim c.else-n-ne0.branch [
      | else-n-ne0-via-then-n-ne0+else-v w ↦ rw (ne_eqb _ _ w.if-n-ne0.true, w.if-v.false) (none _)
      | else-n-ne0-via-else-n-ne0 w ↦ rw (eq-eqb _ _ w.if-n-ne0.false) (none _)
    ]

-- `answer_lines::same` meets its contract. Assumes nothing.
use Rattle.std.proofs.Common.{take, inl, inr, sym, ap, ◌∙◌}
use borrow.Author.Tests.{lt-leb, ne_eqb}
use Rattle.answer_lines.specs.Lines.{every}
use Rattle.answer_lines.proofs.Laws.{other_size, too_few, same_size}
use Rattle.answer_lines.proofs.same.Goals.{then-field-n, else-field-n}
use Rattle.answer_lines.proofs.same.Goals as goal

pub returns-then-n-x : goal.returns-then-n-x
returns-then-n-x g c =
    let a = c.args in
    same_size (λ f. every (g.T.Element.is f) 0) a.fields.now a.n a.x.now (sym c.field.ensures ∙ c.if-n-x.true.0) c.if-n-x.true.1
    (c.elements_are.ensures ∙ ap (λ l. every (g.T.Element.is l) 0 (take a.n a.x.now)) c.from.ensures)

pub returns-else-n-x : goal.returns-else-n-x
returns-else-n-x g c =
    let a = c.args in
    elim c.if-field-n.branch [
      | then-field-n w ↦
          elim c.if-n-x.either [
            | inl p ↦ w.t-5-is ∙ lt-leb a.n _ p.1 ∙ too_few (λ f. every (g.T.Element.is f) 0) a.fields.now a.n a.x.now (sym c.field.ensures ∙ w.if-field-n.true) p.1
            | inr p ↦ absurd (p w.if-field-n.true)
          ]
      | else-field-n w ↦
          w.t-5-is ∙ ne_eqb _ _ w.if-field-n.false ∙ other_size (λ f. every (g.T.Element.is f) 0) a.fields.now a.n a.x.now (λ e. w.if-field-n.false (c.field.ensures ∙ e))
    ]

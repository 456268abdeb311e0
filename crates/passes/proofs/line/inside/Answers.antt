-- `passes::line::inside` meets its contract. Assumes nothing.
use mathlib.Core.Path.{sym, ◌∙◌}
use Rattle.std.proofs.Common.{inl, inr, rules, tests}
use Rattle.passes.proofs.Times.{outside_early, outside_late, inside_is}
use Rattle.passes.proofs.line.inside.Goals as goal

pub returns-then-contains : goal.returns-then-contains
returns-then-contains c = inside_is _ _ (search (rules, tests)) (search (rules, tests))

pub returns-else-contains : goal.returns-else-contains
returns-else-contains c =
    c.if-contains.false
    ∙ sym (elim c.if-contains.ensures.cases [
      | inl h ↦ outside_early _ _ (search (rules, tests))
      | inr h ↦ outside_late _ _ (search (rules, tests))
    ])

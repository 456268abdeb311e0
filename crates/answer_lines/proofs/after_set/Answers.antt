-- `answer_lines::after_set` meets its contract. Assumes nothing.
use mathlib.Core.Path.{ap, ◌∙◌}
use Rattle.answer_lines.specs.Lines.{after_list}
use Rattle.answer_lines.proofs.after_set.Goals as goal

pub returns : goal.returns
returns c =
    c.after_list-4.ensures ∙ ap after_list (c.after_list-3.ensures ∙ ap after_list (c.after_list-2.ensures ∙ ap after_list c.after_list.ensures))

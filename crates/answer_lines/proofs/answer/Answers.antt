-- `answer_lines::answer` meets its contract. Assumes nothing.
use Rattle.std.proofs.Common.{ℕ, ◌+◌, drop, ap, ◌∙◌}
use Rattle.answer_lines.specs.Lines.{answer_fields}
use Rattle.answer_lines.proofs.answer.Goals as goal

pub returns : goal.returns
unfolding answer_fields
returns c = c.after.ensures ∙ ap (λ (k : ℕ). drop (k + 1) c.args.line.now) c.find.ensures.0

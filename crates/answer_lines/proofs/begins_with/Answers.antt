-- `answer_lines::begins_with` meets its contract. Assumes nothing.
use Rattle.std.proofs.Common.{◌∙◌}
use Rattle.answer_lines.proofs.Laws.{begins_is}
use Rattle.answer_lines.proofs.begins_with.Goals as goal

pub returns : goal.returns
returns c = c.starts_with.ensures.value ∙ begins_is c.args.name.now c.args.line.now

-- `answer_lines::after_list` meets its contract: a saturated place is behind the end too. Assumes nothing.
use Rattle.std.proofs.Common.{◌∙◌, arith}
use Rattle.answer_lines.proofs.Laws.{after_list_is}
use Rattle.answer_lines.proofs.after_list.Goals as goal

pub returns : goal.returns
returns c = c.from.ensures ∙ after_list_is c.args.fields.now (omega arith) c.field.ensures c.saturating_add.ensures

-- `answer_lines::from` meets its contract: a saturated place is behind the end too. Assumes nothing.
use Rattle.std.proofs.Common.{◌∙◌, arith}
use Rattle.answer_lines.proofs.Laws.{from_is}
use Rattle.answer_lines.proofs.from.Goals as goal

pub returns : goal.returns
returns c = c.after.ensures ∙ from_is c.args.fields.now c.args.k (omega arith) c.saturating_mul.ensures

-- `replay_sums::agrees` meets its contract: what was checked has one of the words. Assumes nothing.
use Rattle.answer_lines.proofs.Laws.{known}
use Rattle.replay_sums.proofs.agrees.Goals as goal

pub returns : goal.returns
returns c =
    known _ _ _ _ c.agrees.result c.word.ensures c.occurs_in.ensures c.if-not-occurs_in.false

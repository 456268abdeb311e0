-- `replay_elements::agrees` meets its contract: what was checked has the word. Assumes nothing.
use Rattle.answer_lines.proofs.Laws.{known}
use Rattle.replay_elements.proofs.agrees.Goals as goal

pub returns : goal.returns
returns c =
    known _ _ _ _ c.checked.result c.word.ensures c.occurs_in.ensures c.if-not-occurs_in.false

-- `replay_geodetic::agrees` meets its contract: what was checked has one of the words. Assumes nothing.
use Rattle.answer_lines.proofs.Laws.{known}
use Rattle.replay_geodetic.proofs.agrees.Goals as goal

pub returns : goal.returns
returns c =
    known _ _ _ _ c.checked.result c.word.ensures c.occurs_in.ensures c.if-not-occurs_in.false

use lib.IntN.{pos}
use Rattle.answer_lines.proofs.Sized.{sized}
use Rattle.replay.proofs.rooms.times.Goals as goal

pub returns : goal.returns
returns c = sized 4096 (pos 0)

use lib.Ieee.{binary64, of_bits}
use Rattle.answer_lines.proofs.Sized.{sized}
use Rattle.replay.proofs.rooms.freqs.Goals as goal

pub returns : goal.returns
unfolding of_bits
returns c = sized 4096 (of_bits binary64 0)

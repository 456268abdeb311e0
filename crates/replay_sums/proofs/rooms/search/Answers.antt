use lib.Ieee.{binary64, of_bits}
use Rattle.answer_lines.proofs.Sized.{sized}
use Rattle.replay_sums.proofs.rooms.search.Goals as goal

pub returns : goal.returns
unfolding of_bits
returns c = sized 48032 (of_bits binary64 0)

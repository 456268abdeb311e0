use lib.Ieee.{binary64, of_bits}
use Rattle.answer_lines.proofs.Sized.{sized}
use Rattle.replay_numbers.proofs.rooms.elimination.Goals as goal

pub returns : goal.returns
unfolding of_bits
returns c = sized 4692 (of_bits binary64 0)

use lib.Ieee.{binary64, of_bits}
use Rattle.answer_lines.proofs.Sized.{sized}
use Rattle.replay_fits.proofs.rooms.derivatives.Goals as goal

pub returns : goal.returns
unfolding of_bits
returns c = sized 281792 (of_bits binary64 0)

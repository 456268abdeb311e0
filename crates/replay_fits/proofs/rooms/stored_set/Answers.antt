use Rattle.std.proofs.Common.{ℕ}
use Rattle.answer_lines.proofs.Sized.{sized}
use Rattle.replay_fits.proofs.rooms.stored_set.Goals as goal

pub returns : goal.returns
returns c = sized {A = ℕ} 16384 0

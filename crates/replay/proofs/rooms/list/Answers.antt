use Prim.Native.Nat.{ℕ}
use Rattle.answer_lines.proofs.Sized.{sized}
use Rattle.replay.proofs.rooms.list.Goals as goal

pub returns : goal.returns
returns c = sized {A = ℕ} 4194304 0

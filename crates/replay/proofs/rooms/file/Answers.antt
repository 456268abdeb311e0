use Prim.Native.Nat.{ℕ}
use Rattle.answer_lines.proofs.Sized.{sized}
use Rattle.replay.proofs.rooms.file.Goals as goal

pub returns : goal.returns
returns c = sized {A = ℕ} 131072 0

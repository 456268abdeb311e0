-- `put_turn` meets its contract. Assumes nothing.
use Rattle.orbit.proofs.Hoisted.{turn_is}
use Rattle.approach.proofs.Fill.{put_is}
use Rattle.approach.proofs.turns.put_turn.Goals as goal

pub returns : goal.returns
returns c = put_is _ _ _ _ _ (turn_is _ _ _ _ c.jd_at.ensures c.rotation-turn.ensures)

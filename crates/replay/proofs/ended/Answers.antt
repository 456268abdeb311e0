use mathlib.Core.Path.{refl}
use Rattle.replay.specs.Count.{tally_ended}
use Rattle.replay.proofs.ended.Goals as goal

pub returns : goal.returns
unfolding tally_ended
returns c = refl

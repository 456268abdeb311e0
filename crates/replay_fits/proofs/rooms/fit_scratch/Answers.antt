use Rattle.answer_lines.proofs.Sized.{sized}
use Rattle.replay_fits.proofs.rooms.fit_scratch.Goals as goal

pub returns : goal.returns
returns c = sized 40000 c.args.v

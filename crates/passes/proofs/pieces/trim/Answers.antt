-- `passes::pieces::trim` meets its contract. Assumes nothing.
use Rattle.passes.proofs.Texts.{trimmed}
use Rattle.passes.proofs.pieces.trim.Goals as goal

pub returns : goal.returns
returns c = trimmed c.trim_start-s.ensures c.trim_end-e.ensures

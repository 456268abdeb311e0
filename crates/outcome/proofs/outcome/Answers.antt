-- `outcome` meets its contract. Assumes nothing.
use Rattle.outcome.proofs.Outputs.{comes}
use Rattle.outcome.proofs.outcome.Goals as goal

pub returns : goal.returns
returns c =
    comes _ _ _ _ _ c.hear.ensures c.in_time.ensures.0 c.in_time.ensures.1 _ _ _ _ c.fit_and_format.ensures

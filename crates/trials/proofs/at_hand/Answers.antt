-- `at_hand` meets its contract. Assumes nothing.
use Rattle.residuals.proofs.Laws.{all_filled}
use Rattle.trials.proofs.at_hand.Goals as goal

pub returns-then-known : goal.returns-then-known
returns-then-known g c = all_filled (c.requires.held c.if-known.true)

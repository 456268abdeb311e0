-- `predict_sample` meets its contract. Assumes nothing.
use Rattle.orbit.specs.Doppler.{predicted_seen}
use Rattle.residuals.proofs.Samples.{predicts}
use borrow.Author.Rules.{rules}
use Rattle.residuals.proofs.observations.Observations.shift.Goals as goal

pub returns : goal.returns
returns c = search (rules, predicts, predicted_seen)

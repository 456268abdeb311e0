-- `shift_at` meets its contract: no prediction is refused. Assumes nothing.
use Rattle.std.proofs.Common.{sym, ◌∙◌, lit≤}
use Rattle.moment.proofs.Samples.{within_sound}
use Rattle.orbit.specs.Doppler.{predicted_seen}
use Rattle.approach.proofs.Far.{shifted, answered}
use Rattle.approach.proofs.sums.shift_at.Goals as goal

pub predict-requires : goal.predict-requires
predict-requires c = let p = c.requires in (within_sound 0 _ _ (lit≤ tt) c.args.v.dated, within_sound 0 _ _ (lit≤ tt) p.1)

pub unwrap-requires : goal.unwrap-requires
unwrap-requires c = let p = c.requires in answered _ _ _ _ _ p.2 p.0 p.1 _ (c.predict.ensures ∙ predicted_seen _ _ _ _ _ _ c.args.v.seen)

pub returns : goal.returns
returns c =
    shifted _ _ _ _ _ c.requires.2 _ (sym c.unwrap.ensures ∙ c.predict.ensures ∙ predicted_seen _ _ _ _ _ _ c.args.v.seen)

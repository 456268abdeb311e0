use Rattle.orbit.proofs.Hoisted.{turn_is, predicted_at_lem, sight_sound}
use Rattle.moment.proofs.Samples.{within_sound}
use lib.Dec.{lit≤}
use Rattle.orbit.proofs.doppler.predict_at.Goals as goal

pub predict-requires : goal.predict-requires
predict-requires c =
    let p = c.requires in
    (sight_sound _ _ c.sight_of-v.ensures (within_sound 0 _ _ (lit≤ tt) p.0), within_sound 0 _ _ (lit≤ tt) p.1)

pub returns : goal.returns
returns c =
    predicted_at_lem _ _ _ _ _ _ _ _ _ _ (turn_is _ _ _ _ c.jd_at.ensures c.rotation-turn.ensures) c.sight_of-v.ensures c.predict.ensures

-- `closer` meets its contract. Assumes nothing.
use lib.Dec.{lit≤}
use Rattle.moment.proofs.Samples.{within_sound}
use Rattle.orbit.proofs.Hoisted.{sight_rates}
use Rattle.approach.specs.Turns.{reach}
use Rattle.approach.proofs.Stages.{closer_taken, closer_left}
use Rattle.approach.proofs.pca.closer.Goals as goal

pub tau-tau-requires : goal.tau-tau-requires
tau-tau-requires c = (within_sound reach _ _ (lit≤ tt) c.requires.0, within_sound 0 _ _ (lit≤ tt) c.args.v.dated)

pub returns-then-d-s : goal.returns-then-d-s
returns-then-d-s c =
    closer_taken c.args.v.sight _ _ _ _ _ _ _ (sight_rates _ _ c.args.v.seen) c.requires.1 c.tau-tau.ensures c.propagate.ensures c.square-d.ensures c.if-d-s.true

pub returns-else-d-s : goal.returns-else-d-s
returns-else-d-s c =
    closer_left c.args.v.sight _ _ _ _ _ _ _ (sight_rates _ _ c.args.v.seen) c.requires.1 c.tau-tau.ensures c.propagate.ensures c.square-d.ensures c.if-d-s.false

use Rattle.moment.specs.Time.{units_between}
use Rattle.moment.proofs.Order.{le_is}
use Rattle.moment.proofs.time.between.Goals as goal

pub returns-then-le : goal.returns-then-le
unfolding units_between
returns-then-le g c = simp (c.nearest_u64_to_f64.ensures, c.units.ensures, c.since.ensures, ← le_is c.args.e c.args.t c.requires.1.part c.requires.0.part, ← c.le.ensures, c.if-le.true)

pub returns-else-le : goal.returns-else-le
unfolding units_between
returns-else-le g c = simp (c.back.ensures, c.units-else-le.ensures, c.since-else-le.ensures, ← le_is c.args.e c.args.t c.requires.1.part c.requires.0.part, ← c.le.ensures, c.if-le.false)

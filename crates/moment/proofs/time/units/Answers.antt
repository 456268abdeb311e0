use Rattle.moment.proofs.Units.{whole}
use Rattle.moment.proofs.time.units.Goals as goal

pub returns : goal.returns
returns g c = whole c.args.d.secs c.args.d.nanos g.row.UNIT _ c.requires.2

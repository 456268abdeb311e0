use Rattle.moment.proofs.Units.{split}
use Rattle.moment.proofs.time.span_of.Goals as goal

pub returns : goal.returns
returns g c = split c.args.n g.row.UNIT _ c.requires

use Rattle.tle.proofs.Columns.{columns_are}
use Rattle.replay_lines.proofs.agreement.columns.Goals as goal

pub returns : goal.returns
returns c = columns_are c.args.a c.args.b c.args.line.now c.requires.0

use Rattle.std.proofs.Common.{◌∙◌}
use Rattle.float.proofs.Library.{floor_is}
use Rattle.float.proofs.floor.Goals as goal

pub returns : goal.returns
returns c = c.floor.ensures ∙ floor_is c.args.v

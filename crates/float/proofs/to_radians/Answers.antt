use Rattle.std.proofs.Common.{◌∙◌}
use Rattle.float.proofs.Library.{radians_is}
use Rattle.float.proofs.to_radians.Goals as goal

pub returns : goal.returns
returns c = c.to_radians.ensures ∙ radians_is c.args.v

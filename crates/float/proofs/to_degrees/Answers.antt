use Rattle.std.proofs.Common.{◌∙◌}
use Rattle.float.proofs.Library.{degrees_is}
use Rattle.float.proofs.to_degrees.Goals as goal

pub returns : goal.returns
returns c = c.to_degrees.ensures ∙ degrees_is c.args.v

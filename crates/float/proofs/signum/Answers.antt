use Rattle.std.proofs.Common.{◌∙◌}
use Rattle.float.proofs.Library.{signum_is}
use Rattle.float.proofs.signum.Goals as goal

pub returns : goal.returns
returns c = c.signum.ensures ∙ signum_is c.args.v

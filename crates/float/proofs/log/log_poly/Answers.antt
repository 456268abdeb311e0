use Rattle.std.proofs.Common.{ap, ◌∙◌}
use Rattle.float.specs.Trig.{horner}
use Rattle.float.specs.Log.{log_poly, logTerm-bits}
use Rattle.float.proofs.log.log_poly.Goals as goal

pub returns : goal.returns
unfolding log_poly
returns c = c.horner.ensures ∙ ap (horner c.args.t) logTerm-bits

use Rattle.std.proofs.Common.{ap, ◌∙◌}
use lib.Ieee.{of_bits, neg}
use Rattle.float.specs.Ops.{◌⊗◌}
use Rattle.float.specs.Trig.{cos_poly, horner, cosineTerm-bits}
use Rattle.float.proofs.trig.cos_poly.Goals as goal

pub returns : goal.returns
unfolding cos_poly of_bits neg
returns c = let r = c.args.r in c.horner.ensures ∙ ap (horner (r ⊗ r)) cosineTerm-bits

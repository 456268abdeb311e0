use Rattle.std.proofs.Common.{ap, ◌∙◌}
use lib.Ieee.{Float, of_bits, neg}
use Rattle.float.specs.Ops.{◌⊗◌}
use Rattle.float.specs.Trig.{sin_poly, horner, sineTerm-bits}
use Rattle.float.proofs.trig.sin_poly.Goals as goal

pub returns : goal.returns
unfolding sin_poly of_bits neg
returns c = let r = c.args.r in ap (λ (x : Float). r ⊗ x) (c.horner.ensures ∙ ap (horner (r ⊗ r)) sineTerm-bits)

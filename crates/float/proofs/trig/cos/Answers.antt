use Rattle.std.proofs.Common.{◌∙◌, arith}
use Rattle.float.proofs.Angle.{cos_law, next_quadrant, quadrant_lt}
use Rattle.float.specs.Trig.{quadrant_of, quarters_of}
use Rattle.float.proofs.trig.cos.Goals as goal

pub overflow_add-a : goal.overflow_add-a
overflow_add-a c = rw c.reduce-a.ensures.0 (omega (arith, quadrant_lt (quarters_of c.args.v)))

pub returns : goal.returns
returns c =
    simp (c.sin_at.ensures, c.cos_poly.ensures, c.sin_poly.ensures, c.reduce-a.ensures.0, c.reduce-a.ensures.1)
    (next_quadrant (quadrant_of (quarters_of c.args.v)) _ _ (quadrant_lt (quarters_of c.args.v)) ∙ cos_law c.args.v)

use Rattle.std.proofs.Common.{ℕ, ◌<◌, sym, subst}
use Rattle.float.proofs.Angle.{joined, quadrant_lt}
use Rattle.float.proofs.trig.sin_cos.Goals as goal

pub from_polys-requires : goal.from_polys-requires
from_polys-requires c = subst (λ (n : ℕ). n < 4) (sym c.reduce-a.ensures.0) (quadrant_lt _)

pub returns : goal.returns
returns c =
    let a = c.reduce-a.ensures in
    joined _ _ _ _ _ _ _ a.0 a.1 c.sin_poly.ensures c.cos_poly.ensures c.from_polys.ensures.0 c.from_polys.ensures.1

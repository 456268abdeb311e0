use Rattle.std.proofs.Common.{ℕ, ◌<◌, sym, subst}
use Rattle.float.proofs.Angle.{joined, quadrant_lt}
use Rattle.float.proofs.trig.sin_cos_pair.Goals as goal

pub from_polys-requires : goal.from_polys-requires
from_polys-requires c = subst (λ (n : ℕ). n < 4) (sym c.reduce-a.ensures.0) (quadrant_lt _)

pub from_polys-requires-2 : goal.from_polys-requires-2
from_polys-requires-2 c = subst (λ (n : ℕ). n < 4) (sym c.reduce-b.ensures.0) (quadrant_lt _)

pub returns : goal.returns
returns c =
    let b = c.reduce-b.ensures in
    let a = c.reduce-a.ensures in (
      joined _ _ _ _ _ _ _ a.0 a.1 c.sin_poly-s.ensures c.cos_poly-c.ensures c.from_polys.ensures.0 c.from_polys.ensures.1,
      joined _ _ _ _ _ _ _ b.0 b.1 c.sin_poly-t.ensures c.cos_poly-d.ensures c.from_polys-2.ensures.0 c.from_polys-2.ensures.1,
    )

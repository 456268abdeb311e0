use Rattle.std.proofs.Common.{◌∙◌}
use Rattle.float.proofs.Angle.{next_quadrant}
use Rattle.float.proofs.trig.from_polys.Goals as goal

pub returns : goal.returns
returns c =
    (c.sin_at.ensures, c.sin_at-2.ensures ∙ next_quadrant c.args.q c.args.s c.args.c c.requires)

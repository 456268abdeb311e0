-- `roots::cube::cube_at_most` meets its contract. Assumes nothing.
use Rattle.roots.proofs.Wide.{cube_test}
use Rattle.roots.proofs.cube.cube_at_most.Goals as goal

pub returns : goal.returns
returns c = rw (c.div_ceil.ensures, c.from-c.ensures, c.from.ensures) (cube_test c.args.c c.args.m c.ranges.m.fits)
